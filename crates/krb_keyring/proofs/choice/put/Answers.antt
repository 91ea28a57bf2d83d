use Rattle.krb_keyring.proofs.ChoiceLemmas.{put_in}
use Rattle.krb_keyring.proofs.choice.put.Goals as goal

pub returns : goal.returns
returns c =
    let place = rw c.as_slice.ensures.value at c.place_of-place.ensures.place in
    put_in c.args.newest.now.items c.insert.new.self.items c.args.entry c.place_of-place.result place c.in_ok-insert.ensures.items
