-- The report on standard error of how a run ended: one line, or nothing if the whole input was answered.
use Rattle.std.specs.Prelude.{ℕ, List, [], ◌++◌, codes}
use Rattle.std.specs.Fmt.{decimal}
use Rattle.krb_text.specs.declared.status.Status.{Status}
use Rattle.krb_text.specs.declared.status.Status.TheVariants.{Done, BadWords, BadLine, ReadFault, WriteFault, OutOfMemory, TooLong}

-- the report after `read` lines were read and `written` lines were written, with the system's text for the call that failed
abbrev pub report_of : Status → ℕ → ℕ → List ℕ → List ℕ
report_of Done read written cause = []
report_of BadWords read written cause =
    codes "krb_run: these words are not a command: the commands are serve, threads, demo <n>, --help and --version\n"
report_of BadLine read written cause =
    codes "krb_run: a bad line: it is not in the table of lines that --help prints, or not where it may be\n"
report_of ReadFault read written cause =
    codes "krb_run: a read of standard input failed after " ++ (decimal read ++ (codes " whole lines: " ++ (cause ++ codes "\n")))
report_of WriteFault read written cause =
    codes "krb_run: a write to standard output failed after " ++ (decimal written ++ (codes " whole lines: " ++ (cause ++ codes "\n")))
report_of OutOfMemory read written cause = codes "krb_run: memory ran out\n"
report_of TooLong read written cause = codes "krb_run: a long line: a line may have 1048576 octets, and an input 1073741824\n"
