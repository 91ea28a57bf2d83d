mod NameLemmas
mod RealmLemmas
