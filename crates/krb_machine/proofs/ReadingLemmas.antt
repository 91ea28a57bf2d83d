-- The state after lines that are taken one after another follows their declarations.
use Rattle.std.proofs.Common.{◌≡◌, ℕ, ◌+◌, true, false, List, [], ◌∷◌, ◌++◌, length, Some, inl, refl, ap, sym, ◌∙◌, subst, append_assoc, arith}
use Rattle.std.proofs.lemmas.List.{append-nil}
use Rattle.krb_text.specs.Limits.{is_long}
use Rattle.krb_lines.specs.Answering.{octet_count, AreShort, Runs, Reaches}
use Rattle.krb_script.specs.Script.{Declared, nothing_declared, declare_line, read_lines, read_on, reading_at, reading_of}
use Rattle.krb_script.specs.declared.stop.Stop.TheVariants.{Bad, Long}
use Rattle.krb_machine.specs.declared.reply.Reply.{Reply}
use Rattle.krb_machine.specs.Reply.{replies_text}
use Rattle.krb_machine.specs.Progress.{Progress, new_progress}
use Rattle.krb_machine.specs.LineRules.{line_rules}
use Rattle.krb_machine.proofs.Following.{Follows}
use Rattle.krb_machine.proofs.ProgressLemmas.{line-made}

pub read-short : (total at n : ℕ) (so_far : Declared) (line : List ℕ) (rest : List (List ℕ)) → is_long total at line ≡ false
    → read_lines total at n so_far (line ∷ rest)
    ≡ read_on (declare_line so_far line) (λ next. read_lines total (at + length line + 1) (n + 1) next rest) (record { so_far = so_far; number = n; stop = Bad })
read-short total at n so_far line rest e = rw e refl

pub read-next : (total at n : ℕ) (so_far next : Declared) (line : List ℕ) (rest : List (List ℕ)) → is_long total at line ≡ false → declare_line so_far line ≡ Some next
    → read_lines total at n so_far (line ∷ rest) ≡ read_lines total (at + length line + 1) (n + 1) next rest
read-next total at n so_far next line rest e d =
    read-short total at n so_far line rest e ∙ ap (λ o. read_on o (λ next. read_lines total (at + length line + 1) (n + 1) next rest) (record { so_far = so_far; number = n; stop = Bad })) d

pub read-long : (total at n : ℕ) (so_far : Declared) (line : List ℕ) (rest : List (List ℕ)) → is_long total at line ≡ true
    → read_lines total at n so_far (line ∷ rest) ≡ record { so_far = so_far; number = n; stop = Long }
read-long total at n so_far line rest e = rw e refl

-- the declarations of the first lines, after the declarations before them, and the replies to all their events
pub record Declares (total at : ℕ) (progress : Progress) (so_far : Declared) (replies : List Reply) (first others : List (List ℕ)) (text : List ℕ) (after : Progress) : Type 0 where
  pub next : Declared
  pub all : List Reply
  pub follows : Follows after next all
  pub reads : read_lines total at (progress.lines + 1) so_far (first ++ others) ≡ read_lines total (at + octet_count first) (after.lines + 1) next others
  pub text_is : replies_text all ≡ replies_text replies ++ text

pub run-declares : (total at : ℕ) (progress : Progress) (so_far : Declared) (replies : List Reply) (first others : List (List ℕ)) (text : List ℕ) (after : Progress) → Follows progress so_far replies
    → Runs line_rules progress first text after → AreShort total at first → Declares total at progress so_far replies first others text after
run-declares total at progress so_far replies [] others text after f run short =
    let P : Progress → Type 0 = λ p. Declares total at progress so_far replies [] others text p in
    subst P (sym run.1) (record {
      next = so_far;
      all = replies;
      follows = f;
      reads = ap (λ n. read_lines total n (progress.lines + 1) so_far others) (omega arith);
      text_is = sym (append-nil (replies_text replies)) ∙ ap (λ l. replies_text replies ++ l) (sym run.0);
    })
run-declares total at progress so_far replies (line ∷ more) others text after f run short =
    let m = line-made progress so_far replies line run.own run.next f run.takes in
    let r = run-declares total (at + length line + 1) run.next m.next m.all more others run.later after m.follows run.follows short.1 in
    record {
      next = r.next;
      all = r.all;
      follows = r.follows;
      reads = read-next total at (progress.lines + 1) so_far m.next line (more ++ others) short.0 m.is
          ∙ ap (λ n. read_lines total (at + length line + 1) (n + 1) m.next (more ++ others)) (sym m.lines_are)
          ∙ r.reads
          ∙ ap (λ n. read_lines total n (after.lines + 1) r.next others) (omega arith);
      text_is = r.text_is ∙ ap (λ l. l ++ run.later) m.text_is ∙ append_assoc (replies_text replies) run.own run.later ∙ ap (λ l. replies_text replies ++ l) (sym run.text_is);
    }

-- after the first lines of an input a session follows their declarations, and their replies are written
pub record Reached (total at : ℕ) (input_lines others : List (List ℕ)) (text : List ℕ) (progress : Progress) : Type 0 where
  pub so_far : Declared
  pub replies : List Reply
  pub follows : Follows progress so_far replies
  pub reading : reading_at total input_lines ≡ read_lines total at (progress.lines + 1) so_far others
  pub text_is : text ≡ replies_text replies

pub run-reaches : (total : ℕ) (first others : List (List ℕ)) (text : List ℕ) (progress : Progress) → Runs line_rules new_progress first text progress → AreShort total 0 first
    → Reached total (octet_count first) (first ++ others) others text progress
run-reaches total first others text progress run short =
    let nothing : Follows new_progress nothing_declared [] = record { answered = refl; admitted = refl; state = inl (record { setup = refl; service = refl; events = refl; none = refl }) } in
    let r = run-declares total 0 new_progress nothing_declared [] first others text progress nothing run short in
    record {
      so_far = r.next;
      replies = r.all;
      follows = r.follows;
      reading = r.reads ∙ ap (λ n. read_lines total n (progress.lines + 1) r.next others) (omega arith);
      text_is = sym r.text_is;
    }

pub input-reaches : (input : List ℕ) (others : List (List ℕ)) (text : List ℕ) (progress : Progress) (r : Reaches line_rules new_progress input others text progress)
    → Reached (length input) (octet_count r.first) (r.first ++ others) others text progress
input-reaches input others text progress r = run-reaches (length input) r.first others text progress r.runs r.short

-- the reading of the whole input is the reading from the first of the other lines on
pub reading-from : (input : List ℕ) (others : List (List ℕ)) (text : List ℕ) (progress : Progress) (r : Reaches line_rules new_progress input others text progress)
    (k : Reached (length input) (octet_count r.first) (r.first ++ others) others text progress)
    → reading_of input ≡ read_lines (length input) (octet_count r.first) (progress.lines + 1) k.so_far others
unfolding reading_of
reading-from input others text progress r k = ap (λ l. reading_at (length input) l) r.lines_are ∙ k.reading
