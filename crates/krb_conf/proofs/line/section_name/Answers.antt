use Rattle.std.proofs.Common.{None, Some, sym, arith}
use Rattle.std.proofs.lemmas.Str.Pattern.{strip_prefix_char, strip_suffix_char}
use Rattle.krb_conf.proofs.LineLemmas.{section_name-no_front, section_name-after_front}
use Rattle.krb_conf.proofs.line.section_name.Goals as goal

pub returns-in_err-strip_prefix : goal.returns-in_err-strip_prefix
returns-in_err-strip_prefix c =
    let absent = strip_prefix_char 91 c.args.line.now None c.in_err-strip_prefix.ensures.cases (omega arith) in
    rw c.from_residual.ensures (sym (section_name-no_front _ absent))

pub returns : goal.returns
returns c =
    let front = strip_prefix_char 91 c.args.line.now (Some c.in_ok-strip_prefix.field-0) c.in_ok-strip_prefix.ensures.cases (omega arith) in
    let end = strip_suffix_char 93 c.in_ok-strip_prefix.field-0.now c.strip_suffix.result c.strip_suffix.ensures.cases (omega arith) in
    section_name-after_front _ _ _ front end
