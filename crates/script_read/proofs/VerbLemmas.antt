use Rattle.std.proofs.Common.{◌≡◌, ℕ, ◌+◌, ◌<◌, List, length, drop, get_or, false, add-one, drop-cons, refl}
use Rattle.std.specs.Str.{bytes_eq}
use Rattle.script_read.specs.declared.verb.Verb.{Verb}
use Rattle.script_read.specs.Commands.{spelling_of, verb_among}

-- a command with another spelling is passed over
pub passed_over : (verbs : List Verb) (i : ℕ) (d : Verb) (word : List ℕ) → i < length verbs → bytes_eq (spelling_of (get_or verbs i d)) word ≡ false →
    verb_among (drop (i + 1) verbs) word ≡ verb_among (drop i verbs) word
passed_over verbs i d word h e = rw (add-one, drop-cons verbs i d, e) refl
