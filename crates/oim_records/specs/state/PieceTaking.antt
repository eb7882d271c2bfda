-- What a read adds to a buffer after its first bytes.
use Rattle.std.specs.Prelude.{◌+◌, ℕ, List, Option, Result, Ok, Err, take}
use Rattle.std.specs.Io.KnownBytes.{Keeps, prepend_known}

-- A read put the bytes that it took after the first `from` bytes of a buffer, which stay. If it
-- failed, it took none.
abbrev pub IsReadBehind : {E : Type 0} → Option (List ℕ) → Option (List ℕ) → ℕ → List ℕ → List ℕ → Result ℕ E → Type 0
IsReadBehind before after from old new (Ok size) = Keeps (prepend_known (take from old) before) (prepend_known (take (from + size) new) after)
IsReadBehind before after from old new (Err e) = Keeps before after
