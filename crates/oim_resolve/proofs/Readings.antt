-- What is read from a concept and from a dimension, and the origin of a fault that a source has.
use Rattle.std.proofs.Common.{◌≡◌, Bool, true, false, Option, Some, None, Ok, Err, if◌then◌else◌, refl, sym, ap, ◌∙◌}
use Rattle.std.specs.Option.{is_none, unwrap_or}
use Rattle.std.specs.Result.{result_err}
use Rattle.oim_cells.specs.Cells.{Meaning}
use Rattle.oim_cells.specs.Cells as m
use Rattle.oim_report.specs.ReportValue.{ReportValue}
use Rattle.oim_report.specs.declared.kind.Kind.{Kind}
use Rattle.oim_report.specs.declared.kind.Kind.TheVariants as kind
use Rattle.oim_resolve.specs.declared.fact.CellFault.{CellFault}
use Rattle.oim_resolve.specs.declared.fact.CellFault.TheVariants.{UnknownName}
use Rattle.oim_resolve.specs.Facts.{concept_read, text_kind}
use Rattle.oim_resolve.specs.Faults.{fault_if, least, unless}
use Rattle.oim_resolve.specs.Kinds.{concept_type_of}
use Rattle.oim_resolve.specs.Origins.{Origin, is_fault, origin_in}
use Rattle.std.specs.Prelude.{List}

-- The fault of a reading that has the least fault of a set.
pub fault_unless : {A : Type 0} (o : Option CellFault) (a : A) → result_err (unless o (Ok a)) ≡ o
fault_unless None a = refl
fault_unless (Some f) a = refl

-- A value that names no concept has the kind of other concepts.
pub kind_unread : (r : ReportValue) (v : Meaning) (f : CellFault) → Err f ≡ concept_read r v → kind.Other ≡ text_kind r v
kind_unread r m.Absent f e = refl
kind_unread r m.Nil f e = refl
kind_unread r m.Empty f e = refl
kind_unread r m.Unknown f e = refl
kind_unread r (m.Text t) f e = by (concept_type_of r t) e
  where
    by : (o : Option Kind) → Err f ≡ unless (least (fault_if UnknownName (is_none o))) (Ok (unwrap_or o kind.Other)) → kind.Other ≡ unwrap_or o kind.Other
    by None h = refl
    by (Some k) h = cc h

-- A source whose least fault is asked for, and one whose is not.
module _ (f : CellFault) (fs : List CellFault) (o : Origin) (b : Bool) (g : Option CellFault) (e : b ≡ is_fault f g) (h : g ≡ least fs) where
  abbrev by_test : Bool → Option Origin
  by_test x = if x then Some o else None

  pub is_origin : b ≡ true → origin_in f (fs, o) ≡ Some o
  is_origin t = ap by_test (sym (ap (is_fault f) h) ∙ sym e ∙ t)

  pub no_origin : b ≡ false → origin_in f (fs, o) ≡ None
  no_origin t = ap by_test (sym (ap (is_fault f) h) ∙ sym e ∙ t)
