-- The first fault of a metadata is the one with the least number.
use Rattle.std.proofs.Common.{◌≡◌, ◌≤◌, ◌⊎◌, inl, inr, List, [], ◌∷◌, Option, Some, None, Bool, true, false, refl, sym, arith, rules, ◌∙◌}
use Rattle.std.specs.Prelude.{⊤, find, if◌then◌else◌}
use Rattle.std.specs.List.{AllByRecursion}
use Rattle.serde_json.specs.Data.{Data}
use Rattle.oim_entries.specs.declared.fault.MetaFault.{MetaFault}
use Rattle.oim_entries.specs.declared.fault.MetaFault.TheVariants.{Syntax, NotReport, BadNamespaces, BadTaxonomy, Unsupported, BadIdentifier, BadTemplate, ColumnKinds, UnknownTemplate}
use Rattle.oim_entries.specs.declared.fault.MetaFault.TheVariants.{UnknownColumn, BadDimension, BadDecimals, BadParameter, BadTypes, TooLarge, Memory, Read}
use Rattle.oim_report.specs.declared.limits.Limits.{Limits}
use Rattle.oim_entries.specs.FaultNames.{fault_number}
use Rattle.oim_meta.specs.FaultOrder.{IsLeastFault}
use Rattle.oim_meta.specs.FirstFault.{has_fault, faults_in_order, first_fault}
use Rattle.oim_report.specs.Parameters.{ParametersValue}
use Rattle.oim_report.specs.Types.{TypesValue}

abbrev IsIn : MetaFault → List MetaFault → Type 0
IsIn e [] = ⊥
IsIn e (x ∷ xs) = (e ≡ x) ⊎ IsIn e xs

abbrev Rise : List MetaFault → Type 0
Rise [] = ⊤
Rise (x ∷ xs) = AllByRecursion (λ y. fault_number x ≤ fault_number y) xs × Rise xs

above : (x e : MetaFault) (xs : List MetaFault) → AllByRecursion (λ y. fault_number x ≤ fault_number y) xs → IsIn e xs → fault_number x ≤ fault_number e
above x e [] all h = absurd h
above x e (y ∷ ys) all (inl same) = rw same all.0
above x e (y ∷ ys) all (inr more) = above x e ys all.1 more

-- The result of a search through faults with rising numbers.
least : (p : MetaFault → Bool) (xs : List MetaFault) (f e : MetaFault) → Rise xs → find p xs ≡ Some f → IsIn e xs → p e ≡ true → fault_number f ≤ fault_number e
least p [] f e rise found h has = absurd h
least p (x ∷ xs) f e rise found h has = at (p x) refl h found (λ k more. least p xs f e rise.1 k more has)
  where
    at : (b : Bool) → p x ≡ b → (e ≡ x) ⊎ IsIn e xs → (if b then Some x else find p xs) ≡ Some f → (find p xs ≡ Some f → IsIn e xs → fault_number f ≤ fault_number e) → fault_number f ≤ fault_number e
    at true here (inl same) k later = let one : x ≡ f = cc in rw (same, ← one) (omega arith)
    at true here (inr more) k later = let one : x ≡ f = cc in rw (← one) (above x e xs rise.0 more)
    at false here (inl same) k later = let wrong : p x ≡ true = rw (← same) has in absurd cc
    at false here (inr more) k later = later k more

found_has : (p : MetaFault → Bool) (xs : List MetaFault) (f : MetaFault) → find p xs ≡ Some f → p f ≡ true
found_has p [] f found = absurd cc
found_has p (x ∷ xs) f found = at (p x) refl found (λ k. found_has p xs f k)
  where
    at : (b : Bool) → p x ≡ b → (if b then Some x else find p xs) ≡ Some f → (find p xs ≡ Some f → p f ≡ true) → p f ≡ true
    at true here k later = let one : x ≡ f = cc in rw (← one) here
    at false here k later = later k

none_has : (p : MetaFault → Bool) (xs : List MetaFault) (e : MetaFault) → find p xs ≡ None → IsIn e xs → p e ≡ false
none_has p [] e found h = absurd h
none_has p (x ∷ xs) e found h = at (p x) refl h found (λ k more. none_has p xs e k more)
  where
    at : (b : Bool) → p x ≡ b → (e ≡ x) ⊎ IsIn e xs → (if b then Some x else find p xs) ≡ None → (find p xs ≡ None → IsIn e xs → p e ≡ false) → p e ≡ false
    at true here g k later = absurd cc
    at false here (inl same) k later = rw same here
    at false here (inr more) k later = later k more

in_order : Rise faults_in_order
in_order = search rules

-- Each fault is tested, except those that no metadata has.
looked_for : (limits : Limits) (given : ParametersValue) (types : TypesValue) (d : Data) (e : MetaFault) → IsIn e faults_in_order ⊎ (has_fault limits given types d e ≡ false)
looked_for limits given types d Syntax = inr refl
looked_for limits given types d NotReport = inl (inl refl)
looked_for limits given types d BadNamespaces = inl (inr (inl refl))
looked_for limits given types d BadTaxonomy = inl (inr (inr (inl refl)))
looked_for limits given types d Unsupported = inl (inr (inr (inr (inl refl))))
looked_for limits given types d BadIdentifier = inl (inr (inr (inr (inr (inl refl)))))
looked_for limits given types d BadTemplate = inl (inr (inr (inr (inr (inr (inl refl))))))
looked_for limits given types d ColumnKinds = inl (inr (inr (inr (inr (inr (inr (inl refl)))))))
looked_for limits given types d UnknownTemplate = inl (inr (inr (inr (inr (inr (inr (inr (inl refl))))))))
looked_for limits given types d UnknownColumn = inl (inr (inr (inr (inr (inr (inr (inr (inr (inl refl)))))))))
looked_for limits given types d BadDimension = inl (inr (inr (inr (inr (inr (inr (inr (inr (inr (inl refl))))))))))
looked_for limits given types d BadDecimals = inl (inr (inr (inr (inr (inr (inr (inr (inr (inr (inr (inl refl)))))))))))
looked_for limits given types d BadParameter = inl (inr (inr (inr (inr (inr (inr (inr (inr (inr (inr (inr (inl refl))))))))))))
looked_for limits given types d BadTypes = inr refl
looked_for limits given types d TooLarge = inl (inr (inr (inr (inr (inr (inr (inr (inr (inr (inr (inr (inr (inl refl)))))))))))))
looked_for limits given types d Memory = inr refl
looked_for limits given types d Read = inr refl

pub is_least : (limits : Limits) (given : ParametersValue) (types : TypesValue) (d : Data) → IsLeastFault limits given types d (first_fault limits given types d)
is_least limits given types d = at (first_fault limits given types d) refl
  where
    p : MetaFault → Bool
    p e = has_fault limits given types d e

    at : (o : Option MetaFault) → first_fault limits given types d ≡ o → IsLeastFault limits given types d o
    at None found = λ e. elim (looked_for limits given types d e) [
      | inl there ↦ none_has p faults_in_order e found there
      | inr never ↦ never
    ]
    at (Some f) found = (
      found_has p faults_in_order f found,
      λ e has. elim (looked_for limits given types d e) [
        | inl there ↦ least p faults_in_order f e in_order found there has
        | inr never ↦ let wrong : true ≡ false = sym has ∙ never in absurd cc
      ],
    )
