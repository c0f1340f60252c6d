use Rattle.std.proofs.Common.{◌≡◌, ℕ, ◌+◌, ◌≤◌, ◌<◌, Option, Some, None, List, [], ◌∷◌, ◌++◌, length, Result, Ok, Err}
use Rattle.std.proofs.Common.{append_assoc, append-nil, length-append, ◌∙◌, sym, ap, refl, arith}
use Rattle.std.specs.Prelude.{IfSome}
use Rattle.std.specs.Option.{option_to_list}
use Rattle.script_orders.specs.Asked.{Asked}
use Rattle.script_orders.specs.Limits.{most_commands}
use Rattle.script_orders.specs.declared.script_command.ScriptCommand.{ScriptCommand}
use Rattle.script_words.specs.declared.refusal.Refusal.{Refusal}
use Rattle.script_words.specs.declared.refusal.ReadError.{ReadError}
use Rattle.script_words.specs.declared.refusal.ReadError.TheVariants as errors
use Rattle.script_read.specs.declared.refusal.ScriptRefusal.{ScriptRefusal}
use Rattle.script_read.specs.State.{ReaderState}
use Rattle.script_read.specs.Reading.{FirstRefusal, read_text_line, read_lines, behind, followed, Answers, RefusedAs, number_of_refusal}
use Rattle.script_read.specs.InnerReading.{ReadsTextLine, RefusesLine}

-- these commands and names
abbrev asked_as : List ScriptCommand → List (List ℕ) → Asked
asked_as commands names = record { commands = commands; names = names }

-- so much is read, and the lines that are left read as the rest of the whole
pub record ReadTo (all : Result Asked FirstRefusal) (whole n left : ℕ) (front : List ScriptCommand) (rest : Result Asked FirstRefusal) : Type 0 where
  pub place : n + left ≡ whole
  pub reads : behind front rest ≡ all

behind-append : (front more : List ScriptCommand) (rest : Result Asked FirstRefusal) → behind front (behind more rest) ≡ behind (front ++ more) rest
behind-append front more (Ok asked) = ap (λ xs. Ok (asked_as xs asked.names)) (sym (append_assoc front more asked.commands))
behind-append front more (Err e) = refl

pub behind_nothing : (rest : Result Asked FirstRefusal) → behind [] rest ≡ rest
behind_nothing (Ok asked) = refl
behind_nothing (Err e) = refl

-- one more line
pub line_more : {all : Result Asked FirstRefusal} (front : List ScriptCommand) (n : ℕ) (s after : ReaderState) (line : List ℕ) (lines : List (List ℕ))
    (asked : List ScriptCommand) → behind front (read_lines n (length front) s (line ∷ lines)) ≡ all →
    read_text_line (length front) s line ≡ Ok (asked, after) → behind (front ++ asked) (read_lines (n + 1) (length (front ++ asked)) after lines) ≡ all
unfolding read_lines
line_more front n s after line lines asked so_far e =
    rw (length-append front asked) (sym (behind-append front asked (read_lines (n + 1) (length front + length asked) after lines))
    ∙ sym (ap (λ r. behind front (followed n r (λ more t. read_lines (n + 1) (length front + length more) t lines))) e) ∙ so_far)

-- a line that is refused
pub line_refused : {all : Result Asked FirstRefusal} (front : List ScriptCommand) (n : ℕ) (s : ReaderState) (line : List ℕ) (lines : List (List ℕ))
    (refusal : Refusal) → behind front (read_lines n (length front) s (line ∷ lines)) ≡ all → read_text_line (length front) s line ≡ Err refusal →
    all ≡ Err (n, refusal)
unfolding read_lines
line_refused front n s line lines refusal so_far e = sym so_far
    ∙ ap (λ r. behind front (followed n r (λ more t. read_lines (n + 1) (length front + length more) t lines))) e

-- no line is left
pub lines_end : {all : Result Asked FirstRefusal} {front : List ScriptCommand} (n commands : ℕ) (s : ReaderState) →
    behind front (read_lines n commands s []) ≡ all → all ≡ Ok (asked_as front s.made)
unfolding read_lines
lines_end {front} n commands s so_far = sym so_far ∙ ap (λ xs. Ok (asked_as xs s.made)) (append-nil front)

-- a refusal is the one that the definition gives
pub refused_as : {all : Result Asked FirstRefusal} (n : ℕ) (refusal : Refusal) → all ≡ Err (n, refusal) → RefusedAs n (number_of_refusal refusal) all
refused_as n refusal e = rw e (refl, refl)

-- the answer at a line that is not read
pub answers_refused : {all : Result Asked FirstRefusal} {whole n : ℕ} {front : List ScriptCommand} (s after : ReaderState) (line : List ℕ)
    (lines : List (List ℕ)) (error : ReadError) (answer : ScriptRefusal) →
    ReadTo all whole n (length (line ∷ lines)) front (read_lines n (length front) s (line ∷ lines)) →
    ReadsTextLine (Err error) after (read_text_line (length front) s line) → RefusesLine answer n error → Answers (Err answer) all
answers_refused s after line lines errors.NoMemory answer so_far read e = rw e tt
answers_refused {n} {front} s after line lines (errors.Refused refusal) answer so_far read e = rw e
    (refused_as n refusal (line_refused front n s line lines refusal so_far.reads read))

-- one more line is read
pub read_more : {all : Result Asked FirstRefusal} {whole n : ℕ} {front : List ScriptCommand} (s after : ReaderState) (line : List ℕ) (lines : List (List ℕ))
    (asked : List ScriptCommand) → ReadTo all whole n (length (line ∷ lines)) front (read_lines n (length front) s (line ∷ lines)) →
    read_text_line (length front) s line ≡ Ok (asked, after) →
    ReadTo all whole (n + 1) (length lines) (front ++ asked) (read_lines (n + 1) (length (front ++ asked)) after lines)
read_more {n} {front} s after line lines asked so_far e = record {
  place = omega (arith, so_far.place);
  reads = line_more front n s after line lines asked so_far.reads e;
}

-- one more command, if any, is still few
pub few_more : (commands : List ScriptCommand) (asked : Option ScriptCommand) → length commands ≤ most_commands →
    IfSome asked (λ c. length commands < most_commands) → length (commands ++ option_to_list asked) ≤ most_commands
few_more commands None h few = rw append-nil h
few_more commands (Some c) h few = omega (arith, length-append commands (c ∷ []))
