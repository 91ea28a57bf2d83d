-- The progress after some lines, and the effect of one more line.
use Rattle.std.specs.Prelude.{◌≡◌, ℕ, ◌+◌, false, ◌&&◌, List, [], Option, Some, None, is_some, is_none, IfSome, MatchBool}
use Rattle.krb_text.specs.Lines.{is_skipped}
use Rattle.krb_realm.specs.Items.{item_of}
use Rattle.krb_realm.specs.Realms.{can_begin, BeginsRealm, can_add, addition_of, EntersRealm, is_moment, TellsReply}
use Rattle.krb_realm.specs.declared.item.RealmLine.{RealmLine}
use Rattle.krb_realm.specs.declared.item.Entry.{Entry}
use Rattle.krb_realm.specs.declared.item.Request.{Request}
use Rattle.krb_realm.specs.declared.item.Item.{Item}
use Rattle.krb_realm.specs.declared.item.Item.TheVariants.{Realm as RealmItem, Entry as EntryItem, Request as RequestItem}
use Rattle.krb_realm.specs.declared.realm.Realm.{Realm}

-- the realm, once a line named it; how many lines were taken, and how many requests answered
pub record Progress : Type 0 where
  pub realm : Option Realm
  pub lines : ℕ
  pub answered : ℕ

abbrev pub new_progress : Progress
new_progress = record { realm = None; lines = 0; answered = 0 }

-- no line named the realm before; nothing is written
pub record NamesRealm (progress : Progress) (line : RealmLine) (text : List ℕ) (after : Progress) : Type 0 where
  pub first : progress.realm ≡ None
  pub realm : Realm
  pub begins : BeginsRealm line realm
  pub text_is : text ≡ []
  pub after_is : after ≡ record progress { realm = Some realm }

-- the realm has one thing more; nothing is written
pub record AddsEntry (progress : Progress) (entry : Entry) (text : List ℕ) (after : Progress) : Type 0 where
  pub before : Realm
  pub known : progress.realm ≡ Some before
  pub realm : Realm
  pub enters : EntersRealm before entry realm
  pub text_is : text ≡ []
  pub after_is : after ≡ record progress { realm = Some realm }

-- the realm's reply is written
pub record RepliesToRequest (progress : Progress) (request : Request) (text : List ℕ) (after : Progress) : Type 0 where
  pub realm : Realm
  pub known : progress.realm ≡ Some realm
  pub replies : TellsReply realm request text
  pub after_is : after ≡ record progress { answered = progress.answered + 1 }

-- what a line says is done: this text is written, and this is known then
abbrev pub TakesItem : Progress → Item → List ℕ → Progress → Type 0
TakesItem progress (RealmItem line) text after = NamesRealm progress line text after
TakesItem progress (EntryItem entry) text after = AddsEntry progress entry text after
TakesItem progress (RequestItem request) text after = RepliesToRequest progress request text after

-- it cannot be done
abbrev pub RefusesItem : Progress → Item → Type 0
RefusesItem progress (RealmItem line) = (is_none progress.realm && can_begin line) ≡ false
RefusesItem progress (EntryItem entry) = IfSome progress.realm (λ realm. can_add realm.kdc (addition_of realm entry) ≡ false)
RefusesItem progress (RequestItem request) = (is_some progress.realm && is_moment request.draw.moment) ≡ false

-- a line that is not skipped
pub record TakesContent (progress : Progress) (line text : List ℕ) (after : Progress) : Type 0 where
  pub item : Item
  pub is : item_of line ≡ Some item
  pub takes : TakesItem progress item text after

abbrev pub RefusesContent : Progress → List ℕ → Type 0
RefusesContent progress line = IfSome (item_of line) (λ item. RefusesItem progress item)

-- one line more is counted
abbrev pub counted : Progress → Progress
counted progress = record progress { lines = progress.lines + 1 }

-- a line is taken
pub record Takes (progress : Progress) (line text : List ℕ) (after : Progress) : Type 0 where
  pub last : Progress
  pub content : MatchBool (is_skipped line) ((text ≡ []) × (last ≡ progress)) (TakesContent progress line text last)
  pub after_is : after ≡ counted last

-- a bad line
pub record Refuses (progress : Progress) (line : List ℕ) : Type 0 where
  pub content : is_skipped line ≡ false
  pub refuses : RefusesContent progress line
