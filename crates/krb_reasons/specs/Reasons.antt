-- The reason why a line is bad, in words.
use Rattle.std.specs.Prelude.{ℕ, ◌==◌, if◌then◌else◌, List, ◌++◌, codes}
use Rattle.std.specs.Fmt.{decimal}
use Rattle.krb_reasons.specs.Wanted.{field_name, wish}
use Rattle.krb_reasons.specs.declared.reason.Reason.{Reason}
use Rattle.krb_reasons.specs.declared.reason.Reason.TheVariants as reasons
use Rattle.krb_reasons.specs.declared.bad_line.BadLine.{BadLine}

-- an octet that is not allowed in a field
abbrev pub octet_name : ℕ → List ℕ
octet_name octet =
    if octet == 9 then codes "a tab" else if octet == 13 then codes "a carriage return" else codes "an octet below 21 or above 7E"

abbrev pub reason_text : Reason → List ℕ
reason_text (reasons.Gap place) =
    codes "field " ++ (decimal place ++ codes " is empty: a line has one space between two fields, and none at either end")
reason_text (reasons.Octet place octet) = codes "field " ++ (decimal place ++ (codes " has " ++ octet_name octet))
reason_text (reasons.Field place wanted) =
    codes "field " ++ (decimal place ++ (codes ", " ++ (field_name wanted ++ (codes ", needs " ++ wish wanted))))
reason_text (reasons.Missing place wanted) =
    codes "field " ++ (decimal place ++ (codes ", " ++ (field_name wanted ++ (codes ", is missing: " ++ wish wanted))))
reason_text (reasons.Surplus place) = codes "field " ++ (decimal place ++ codes " is one too many")
reason_text reasons.Buffers = codes "a message has at most one buffer T, one D and one S"
reason_text reasons.NoSkew = codes "no line skew <seconds> comes before it"
reason_text reasons.SecondSkew = codes "an earlier line sets the skew"
reason_text reasons.AfterEvent = codes "after the first event come only events"
reason_text (reasons.DeclaredTwice id) = codes "an earlier line declares connection " ++ decimal id
reason_text (reasons.NotDeclared id) = codes "no earlier line declares connection " ++ decimal id
reason_text (reasons.KeyOfInitiator id) = codes "connection " ++ (decimal id ++ codes " is an initiator, and a key is an acceptor's")
reason_text (reasons.SecondCredentials id) = codes "an earlier line is the password or keytab line of connection " ++ decimal id
reason_text (reasons.SecondKdc id) = codes "an earlier line is the kdc line of connection " ++ decimal id

-- the line that the program writes on standard error
abbrev pub bad_line_text : BadLine → List ℕ
bad_line_text bad = codes "krb_run: bad line " ++ (decimal bad.number ++ (codes ": " ++ (reason_text bad.reason ++ codes "\n")))
