-- Verdicts.
use Rattle.std.specs.Prelude.{ℕ, Bool, true, false, List, codes}
use Rattle.krb_replay.specs.declared.ask.Verdict.{Verdict}
use Rattle.krb_replay.specs.declared.ask.Verdict.TheVariants.{Admitted, Skew, NotYet, Expired, Replayed}

abbrev pub is_admitted : Verdict → Bool
is_admitted Admitted = true
is_admitted Skew = false
is_admitted NotYet = false
is_admitted Expired = false
is_admitted Replayed = false

-- the printed word
abbrev pub verdict_text : Verdict → List ℕ
verdict_text Admitted = codes "Admitted"
verdict_text Skew = codes "Skew"
verdict_text NotYet = codes "NotYet"
verdict_text Expired = codes "Expired"
verdict_text Replayed = codes "Replayed"
