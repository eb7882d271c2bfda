-- Texts that are collected and then written.
use Rattle.std.specs.Prelude.{◌≡◌, ℕ, Bool, true, false, List, [], ◌++◌, Result, Ok, Err}
use Rattle.std.proofs.Common.{refl, sym, ap, ◌∙◌, subst, append_assoc, append-nil}
use Rattle.oim_json.specs.state.Chunks.{IsPut, Puts}
use Rattle.oim_json.specs.Document.{piece}
use Rattle.oim_json.specs.Sinks.{SinkView, Broke, WritesAll, Wrote}
use Rattle.oim_json.specs.declared.mark.WriteFault.{WriteFault}
use Rattle.oim_json.proofs.Writes.{broke_before, broke_later, wrote_twice}

-- Both were written.
none_waits : (a b c : SinkView) (waited waits text : List ℕ) → Wrote a b waited → Wrote b c text → waits ≡ [] → IsPut a c waited waits text
none_waits a b c waited waits text first second none =
    record { written = waited ++ text; wrote = wrote_twice a b c waited text first second; rest = sym (ap (λ l. (waited ++ text) ++ l) none ∙ append-nil (waited ++ text)) }

-- A text that is longer than a chunk.
pub put_past : (a b c : SinkView) (waited waits text : List ℕ) (r : Result (Unit {0}) WriteFault)
    → Wrote a b waited → waits ≡ [] → WritesAll b c r text → Puts a c waited waits text r
put_past a b c waited waits text (Ok u) first none second = none_waits a b c waited waits text first second none
put_past a b c waited waits text (Err fault) first none second = broke_later a b c waited text fault first second

pub put_both : (a b c : SinkView) (w w1 w2 x y : List ℕ) → IsPut a b w w1 x → IsPut b c w1 w2 y → IsPut a c w w2 (x ++ y)
put_both a b c w w1 w2 x y p q =
    record {
      written = p.written ++ q.written;
      wrote = wrote_twice a b c p.written q.written p.wrote q.wrote;
      rest = sym (append_assoc w x y) ∙ ap (λ l. l ++ y) p.rest ∙ append_assoc p.written w1 y ∙ ap (λ l. p.written ++ l) q.rest ∙ sym (append_assoc p.written q.written w2);
    }

pub put_broke : (a b c : SinkView) (w w1 x y : List ℕ) (fault : WriteFault) → IsPut a b w w1 x → Broke b c (w1 ++ y) fault → Broke a c (w ++ (x ++ y)) fault
put_broke a b c w w1 x y fault p q =
    let text : w ++ (x ++ y) ≡ p.written ++ (w1 ++ y) = sym (append_assoc w x y) ∙ ap (λ l. l ++ y) p.rest ∙ append_assoc p.written w1 y in
    subst (λ t. Broke a c t fault) (sym text) (broke_later a b c p.written (w1 ++ y) fault p.wrote q)

pub put_twice : (a b c : SinkView) (w w1 w2 x y : List ℕ) (r : Result (Unit {0}) WriteFault) → IsPut a b w w1 x → Puts b c w1 w2 y r → Puts a c w w2 (x ++ y) r
put_twice a b c w w1 w2 x y (Ok u) p q = put_both a b c w w1 w2 x y p q
put_twice a b c w w1 w2 x y (Err fault) p q = put_broke a b c w w1 x y fault p q

pub broke_sooner : (a b : SinkView) (w x y : List ℕ) (fault : WriteFault) → Broke a b (w ++ x) fault → Broke a b (w ++ (x ++ y)) fault
broke_sooner a b w x y fault p = subst (λ t. Broke a b t fault) (append_assoc w x y) (broke_before a b (w ++ x) y fault p)

-- The waiting bytes are written in the end.
pub put_out : (a b c : SinkView) (w text : List ℕ) (r : Result (Unit {0}) WriteFault) → IsPut a b [] w text → WritesAll b c r w → WritesAll a c r text
put_out a b c w text (Ok u) p q = subst (λ t. Wrote a c t) (sym p.rest) (wrote_twice a b c p.written w p.wrote q)
put_out a b c w text (Err fault) p q = subst (λ t. Broke a c t fault) (sym p.rest) (broke_later a b c p.written w fault p.wrote q)

-- The comma precedes both.
pub piece_of_two : (any : Bool) (x y : List ℕ) → piece any x ++ y ≡ piece any (x ++ y)
piece_of_two true x y = refl
piece_of_two false x y = refl
