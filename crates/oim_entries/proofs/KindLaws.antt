-- The types of a table give a name exactly the kind that its records give.
use Rattle.std.proofs.Common.{◌≡◌, ◌∙◌, ◌+◌, ℕ, List, [], ◌∷◌, Option, Some, None, Ok, Err, Bool, true, false, ◌&&◌, refl, sym, ap, nat_le}
use Rattle.std.specs.Option.{is_none, ok_or, option_and_then, option_or}
use Rattle.oim_names.specs.Names.{is_ncname}
use Rattle.oim_entries.specs.CsvFiles.{all_of, unless_bad}
use Rattle.oim_records.specs.Grids.{Record}
use Rattle.oim_report.specs.Types.{TypesValue, kind_in}
use Rattle.std.specs.Result.{result_ok}
use Rattle.oim_entries.specs.TypeWords.{Table, TypeTexts, kind_given, texts_in}
use Rattle.oim_entries.specs.TypesFile.{most_types, type_after, types_file, with_type}
use Rattle.oim_report.specs.Types.{with_kind}
use Rattle.oim_entries.specs.WholeFile.{kind_by, kind_said}
use Rattle.oim_entries.specs.declared.fault.MetaFault.TheVariants as fault
use Rattle.oim_report.specs.declared.kind.Kind.{Kind}
use Rattle.oim_report.proofs.TypesKept.{or-none, said-more}

or-assoc : {A : Type 0} (a b c : Option A) → option_or (option_or a b) c ≡ option_or a (option_or b c)
or-assoc None b c = refl
or-assoc (Some x) b c = refl

-- The kinds after one more record.
said-after : (table : Table) (types after : TypesValue) (r : Record) (uri local : List ℕ) → type_after table types r ≡ Some after
    → kind_in after uri local ≡ option_or (kind_in types uri local) (option_and_then (kind_by table uri local) (texts_in table r))
said-after table types after r uri local e = of (texts_in table r) refl
  where
    word : (p : TypeTexts) (o : Option Kind) → result_ok (kind_given table p) ≡ o → option_and_then (λ k. Some (with_kind types p.0 p.1 k)) o ≡ Some after
        → kind_in after uri local ≡ option_or (kind_in types uri local) (kind_by table uri local p)
    word p None h e2 = cc e2
    word p (Some k) h e2 = let same : with_kind types p.0 p.1 k ≡ after = cc e2 in rw (← same, h) (said-more types p.0 p.1 uri local k)

    good : (p : TypeTexts) (b : Bool) → (is_ncname p.1 && is_none (kind_in types p.0 p.1)) ≡ b → with_type table types p ≡ Some after
        → kind_in after uri local ≡ option_or (kind_in types uri local) (kind_by table uri local p)
    good p true h e2 = word p (result_ok (kind_given table p)) refl (rw h at e2)
    good p false h e2 = let none : None ≡ Some after = rw h at e2 in cc none

    of : (o : Option (TypeTexts)) → texts_in table r ≡ o → kind_in after uri local ≡ option_or (kind_in types uri local) (option_and_then (kind_by table uri local) (texts_in table r))
    of None h = let none : None ≡ Some after = rw h at e in cc none
    of (Some p) h = rw h (good p (is_ncname p.1 && is_none (kind_in types p.0 p.1)) refl (rw h at e))

pub said-all : (table : Table) (n : ℕ) (before types : TypesValue) (rs : List Record) (uri local : List ℕ) → all_of (types_file table) n before rs ≡ Ok types
    → kind_in types uri local ≡ option_or (kind_in before uri local) (kind_said table rs uri local)
unfolding all_of
said-all table n before types [] uri local e = let same : before ≡ types = cc e in rw same (sym (or-none (kind_in types uri local)))
said-all table n before types (r ∷ rs) uri local e = past (nat_le most_types n) refl (λ t. said-all table (n + 1) t types rs uri local)
  where
    taken : (o : Option TypesValue) → type_after table before r ≡ o → unless_bad (λ t. all_of (types_file table) (n + 1) t rs) (ok_or o fault.BadTypes) ≡ Ok types
        → ((t : TypesValue) → all_of (types_file table) (n + 1) t rs ≡ Ok types → kind_in types uri local ≡ option_or (kind_in t uri local) (kind_said table rs uri local))
        → kind_in types uri local ≡ option_or (kind_in before uri local) (kind_said table (r ∷ rs) uri local)
    taken None h e2 more = cc e2
    taken (Some t) h e2 more =
        more t e2 ∙ ap (λ (o : Option Kind). option_or o (kind_said table rs uri local)) (said-after table before t r uri local h)
        ∙ or-assoc (kind_in before uri local) (option_and_then (kind_by table uri local) (texts_in table r)) (kind_said table rs uri local)

    past : (b : Bool) → nat_le most_types n ≡ b
        → ((t : TypesValue) → all_of (types_file table) (n + 1) t rs ≡ Ok types → kind_in types uri local ≡ option_or (kind_in t uri local) (kind_said table rs uri local))
        → kind_in types uri local ≡ option_or (kind_in before uri local) (kind_said table (r ∷ rs) uri local)
    past true h more = let bad : Err fault.TooLarge ≡ Ok types = rw h at e in cc bad
    past false h more = taken (type_after table before r) refl (rw h at e) more
