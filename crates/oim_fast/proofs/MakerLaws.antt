-- The maker of frames stays right from row to row.
use Rattle.std.proofs.Common.{◌≡◌, List, [], map, sym, subst, arith}
use Rattle.std.specs.List.{All}
use Rattle.oim_rows.specs.RowFacts.{TableHeaderValue}
use Rattle.oim_fast.specs.state.Making.{IsMaker, IsReadyMaker}
use Rattle.oim_fast.specs.state.FrameParts.{IsPart}
use Rattle.oim_row.specs.References.{Grows, IsFresh, Key, ReferenceValue, key_of}
use Rattle.oim_row.specs.Rows.{RowValue}
use Rattle.oim_fast.specs.declared.frame.frame_maker.FrameMaker.{FrameMaker}
use Rattle.oim_fast.specs.declared.frame.part.FramePart.{FramePart}
use Rattle.oim_fast.specs.declared.frame.parts.FrameParts.{FrameParts}
use Rattle.oim_fast.proofs.KeyLaws.{parts_grow}

pub all_of_none : {A : Type 0} (P : A → Type 0) (xs : List A) → xs ≡ [] → All P xs
all_of_none P xs e = subst (All P) (sym e) (λ k d lt. absurd (omega arith))

-- What is right for a row is right for each row of its table.
pub ready_again : (x : RowValue) (m : FrameMaker) → IsMaker x m → IsReadyMaker x.header m
ready_again x m h = record { references = λ k d lt. (h.fresh k d lt).report; cells = h.cells; parts = h.parts }

-- Parts do not depend on what references give.
pub parts_kept : (f : TableHeaderValue) (rs later : List ReferenceValue) (ps : List FramePart) → map key_of later ≡ map key_of rs → All (IsPart f (map key_of rs)) ps → All (IsPart f (map key_of later)) ps
parts_kept f rs later ps same all = subst (λ (ks : List Key). All (IsPart f ks) ps) (sym same) all

-- References were added.
pub maker_grows : (x : RowValue) (m : FrameMaker) (later : List ReferenceValue) → IsMaker x m → All (IsFresh x) later → Grows m.references later → IsMaker x (record m { references = later })
maker_grows x m later h fresh g = record { fresh = fresh; cells = h.cells; said = h.said; parts = parts_grow x.header m.references later g m.parts.list.items h.parts }

-- Parts were added too.
pub maker_with : (x : RowValue) (m : FrameMaker) (later : List ReferenceValue) (parts : FrameParts) → IsMaker x m → All (IsFresh x) later → All (IsPart x.header (map key_of later)) parts.list.items
    → IsMaker x (record m { references = later; parts = parts })
maker_with x m later parts h fresh are = record { fresh = fresh; cells = h.cells; said = h.said; parts = are }
