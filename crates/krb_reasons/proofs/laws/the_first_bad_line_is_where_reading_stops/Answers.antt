use Rattle.krb_reasons.proofs.StopLemmas.{bad_line, no_skew}
use Rattle.krb_reasons.proofs.laws.the_first_bad_line_is_where_reading_stops.Goals as goal

pub returns-clause-bad : goal.returns-clause-bad
returns-clause-bad c = λ pieces last low stop. bad_line pieces last low stop

pub returns-clause-skew : goal.returns-clause-skew
returns-clause-skew c = λ pieces last stop skew. no_skew pieces last stop skew
