-- The lines of a text, and the words of a line.
use Rattle.std.specs.Prelude.{ℕ, List, [], ◌∷◌, Option, Some, None, length, position, filter, drop, slice_index_or, ◌≡◌, ◌+◌, ◌==◌, nat_lt}
use Rattle.std.specs.List.{slice_split}
use Rattle.std.specs.Str.{bytes_eq}
use Rattle.std.specs.Str.Lines.{strip_carriage_return}
use Rattle.std.specs.Option.{option_copied}
use Rattle.script_words.specs.declared.finding.FoundLine.{FoundLine}

-- each line but the last ended with LF, and a CR before that isn't part of it
abbrev pub without_returns : List (List ℕ) → List (List ℕ)
without_returns [] = []
without_returns (x ∷ []) = x ∷ []
without_returns (x ∷ y ∷ more) = strip_carriage_return x ∷ without_returns (y ∷ more)

-- the lines of a text; the last one needs no LF
abbrev pub lines_of : List ℕ → List (List ℕ)
lines_of text = without_returns (slice_split (λ b. b == 10) text)

-- the lines of what stands after a LF, where one was found
abbrev pub lines_after : Option (List ℕ) → List (List ℕ)
lines_after None = []
lines_after (Some text) = lines_of text

-- the words of a line; one or more spaces stand between two
abbrev pub words_of : List ℕ → List (List ℕ)
words_of line = filter (λ w. nat_lt 0 (length w)) (slice_split (λ b. b == 32) line)

-- word number i, or no bytes past the end
abbrev pub word_at : List (List ℕ) → ℕ → List ℕ
word_at words i = slice_index_or words i []

-- how many lines stand before the first that is exactly these bytes, where there is one
abbrev pub lines_before : List ℕ → List (List ℕ) → Option ℕ
lines_before wanted lines = position (λ line. bytes_eq line wanted) lines

-- the first line that is exactly these bytes was found, or there is none
abbrev pub FindsLine : Option FoundLine → List ℕ → List (List ℕ) → Type 0
FindsLine None wanted lines = lines_before wanted lines ≡ None
FindsLine (Some found) wanted lines =
    (lines_before wanted lines ≡ Some found.before) × (lines_after (option_copied found.after) ≡ drop (found.before + 1) lines)
