-- The first finding of a walk over a metadata has the metadata's first fault.
use Rattle.std.proofs.Common.{◌≡◌, ◌∙◌, ◌<◌, ◌≤◌, ℕ, List, [], ◌∷◌, Option, Some, None, Bool, true, false, ◌||◌, refl, sym, ap, arith, nat_eq, if◌then◌else◌}
use Rattle.std.specs.Prelude.{nat_lt, fold, option_map}
use Rattle.std.proofs.lemmas.List.Sums.{fold-append}
use Rattle.serde_json.specs.Data.{Data}
use Rattle.oim_report.specs.declared.limits.Limits.{Limits}
use Rattle.oim_report.specs.Parameters.{ParametersValue}
use Rattle.oim_report.specs.Types.{TypesValue}
use Rattle.oim_entries.specs.declared.fault.MetaFault.{MetaFault}
use Rattle.oim_entries.specs.declared.fault.MetaFault.TheVariants.{Syntax, NotReport, BadNamespaces, BadTaxonomy, Unsupported, BadIdentifier, BadTemplate, ColumnKinds, UnknownTemplate}
use Rattle.oim_entries.specs.declared.fault.MetaFault.TheVariants.{UnknownColumn, BadDimension, BadDecimals, BadParameter, BadTypes, TooLarge, Memory, Read}
use Rattle.oim_meta.specs.declared.findings.Finding.{Finding}
use Rattle.oim_entries.specs.FaultNames.{fault_number}
use Rattle.oim_meta.specs.FaultOrder.{IsLeastFault}
use Rattle.oim_meta.specs.FirstFault.{has_fault, first_fault}
use Rattle.oim_meta.specs.Findings.{sooner, first_of}
use Rattle.oim_meta.specs.FindingPlaces.{IsFirst, has, is_of, places_of}
use Rattle.oim_meta.specs.Paths.{Path}
use Rattle.oim_meta.specs.Known.{known_of}
use Rattle.oim_meta.specs.WalkReport.{in_document, in_parts, in_metadata}
use Rattle.oim_meta.proofs.FirstFinding.{is_first}
use Rattle.oim_meta.proofs.LeastFault.{is_least}
use Rattle.oim_meta.proofs.ReportFaults.{all_found, parts_are_later}

-- A fault by its number.
fault_at : ℕ → MetaFault
fault_at n =
    if nat_eq n 1 then Syntax else if nat_eq n 2 then NotReport else if nat_eq n 3 then BadNamespaces else if nat_eq n 4 then BadTaxonomy
    else if nat_eq n 5 then Unsupported else if nat_eq n 6 then BadIdentifier else if nat_eq n 7 then BadTemplate else if nat_eq n 8 then ColumnKinds
    else if nat_eq n 9 then UnknownTemplate else if nat_eq n 10 then UnknownColumn else if nat_eq n 11 then BadDimension else if nat_eq n 12 then BadDecimals
    else if nat_eq n 13 then BadParameter else if nat_eq n 14 then BadTypes else if nat_eq n 15 then TooLarge else if nat_eq n 16 then Memory else Read

numbered : (e : MetaFault) → fault_at (fault_number e) ≡ e
unfolding fault_at
numbered Syntax = refl
numbered NotReport = refl
numbered BadNamespaces = refl
numbered BadTaxonomy = refl
numbered Unsupported = refl
numbered BadIdentifier = refl
numbered BadTemplate = refl
numbered ColumnKinds = refl
numbered UnknownTemplate = refl
numbered UnknownColumn = refl
numbered BadDimension = refl
numbered BadDecimals = refl
numbered BadParameter = refl
numbered BadTypes = refl
numbered TooLarge = refl
numbered Memory = refl
numbered Read = refl

same_fault : (e f : MetaFault) → fault_number e ≡ fault_number f → e ≡ f
same_fault e f h = sym (numbered e) ∙ ap fault_at h ∙ numbered f

-- A fault has a place exactly if a walk finds it.
none_there : (e : MetaFault) (xs : List Finding) → places_of e xs ≡ [] → has e xs ≡ false
none_there e [] h = refl
none_there e (x ∷ xs) h = at (is_of e x) refl h (none_there e xs)
  where
    at : (b : Bool) → is_of e x ≡ b → (if b then x.place ∷ places_of e xs else places_of e xs) ≡ [] → (places_of e xs ≡ [] → has e xs ≡ false) → (b || has e xs) ≡ false
    at true is k rest = absurd cc
    at false is k rest = rest k

some_there : (e : MetaFault) (p : Path) (ps : List Path) (xs : List Finding) → places_of e xs ≡ p ∷ ps → has e xs ≡ true
some_there e p ps [] h = absurd cc
some_there e p ps (x ∷ xs) h = at (is_of e x) h (some_there e p ps xs)
  where
    at : (b : Bool) → (if b then x.place ∷ places_of e xs else places_of e xs) ≡ p ∷ ps → (places_of e xs ≡ p ∷ ps → has e xs ≡ true) → (b || has e xs) ≡ true
    at true k rest = refl
    at false k rest = rest k

-- Facts about all findings from the first one.
pub none_is_first : (xs : List Finding) → first_of xs ≡ None → (e : MetaFault) → has e xs ≡ false
none_is_first xs h e = let first : IsFirst xs None = rw h at (is_first xs) in none_there e xs (first e)

pub has_first : (xs : List Finding) (x : Finding) → first_of xs ≡ Some x → has x.fault xs ≡ true
has_first xs x h = let first : IsFirst xs (Some x) = rw h at (is_first xs) in some_there x.fault x.place first.0.0 xs first.0.1

pub none_is_lower : (xs : List Finding) (x : Finding) → first_of xs ≡ Some x → (e : MetaFault) → fault_number e < fault_number x.fault → has e xs ≡ false
none_is_lower xs x h e less = let first : IsFirst xs (Some x) = rw h at (is_first xs) in none_there e xs (first.1 e less)

-- A walk that continues without a lower fault has the same first finding.
kept : (x : Finding) (ys : List Finding) → ((e : MetaFault) → fault_number e < fault_number x.fault → has e ys ≡ false) → fold sooner (Some x) ys ≡ Some x
kept x [] h = refl
kept x (y ∷ ys) h = at (nat_lt (fault_number y.fault) (fault_number x.fault)) refl (kept x ys (λ e less. later (is_of e y) (has e ys) (h e less)))
  where
    later : (a b : Bool) → (a || b) ≡ false → b ≡ false
    later true b k = absurd cc
    later false b k = k

    itself : (n : ℕ) → nat_eq n n ≡ true
    itself n = grind arith

    less_than : (m n : ℕ) → nat_lt m n ≡ true → m < n
    less_than m n k = grind arith

    here : (a b : Bool) → a ≡ true → (a || b) ≡ false → ⊥
    here true b k l = absurd cc
    here false b k l = absurd cc

    at : (b : Bool) → nat_lt (fault_number y.fault) (fault_number x.fault) ≡ b → fold sooner (Some x) ys ≡ Some x → fold sooner (if b then Some y else Some x) ys ≡ Some x
    at true is rest =
        absurd (here (is_of y.fault y) (has y.fault ys) (itself (fault_number y.fault)) (h y.fault (less_than (fault_number y.fault) (fault_number x.fault) is)))
    at false is rest = rest

module _ (limits : Limits) (given : ParametersValue) (types : TypesValue) (d : Data) where
  -- The first finding of the document is that of the metadata.
  pub document_is_first : (x : Finding) → first_of (in_document d) ≡ Some x → first_of (in_metadata limits given types d) ≡ Some x
  unfolding in_metadata
  document_is_first x h =
      fold-append sooner None (in_document d) (in_parts (known_of limits given types d) d)
      ∙ ap (λ o. fold sooner o (in_parts (known_of limits given types d) d)) h
      ∙ kept x (in_parts (known_of limits given types d) d) (λ e less. parts_are_later limits given types d x.fault e (has_first (in_document d) x h) less)

  -- The first finding has the first fault.
  pub first_found : (o : Option Finding) → first_of (in_metadata limits given types d) ≡ o → first_fault limits given types d ≡ option_map (λ (x : Finding). x.fault) o
  first_found o h = by o (first_fault limits given types d) h refl (is_least limits given types d)
    where
      clash : (b : Bool) → b ≡ true → b ≡ false → ⊥
      clash b t f = let same : true ≡ false = sym t ∙ f in absurd cc

      equal : (f : MetaFault) (x : Finding) → first_of (in_metadata limits given types d) ≡ Some x → fault_number f ≤ fault_number x.fault
          → has_fault limits given types d f ≡ true → (b : Bool) → nat_lt (fault_number f) (fault_number x.fault) ≡ b → f ≡ x.fault
      equal f x h up has true lt =
          absurd (clash (has_fault limits given types d f) has (sym (all_found limits given types d f) ∙ none_is_lower (in_metadata limits given types d) x h f (less_than _ _ lt)))
        where
          less_than : (m n : ℕ) → nat_lt m n ≡ true → m < n
          less_than m n k = grind arith
      equal f x h up has false lt = same_fault f x.fault (even (fault_number f) (fault_number x.fault) up lt)
        where
          even : (m n : ℕ) → m ≤ n → nat_lt m n ≡ false → m ≡ n
          even m n k l = grind arith

      by : (o : Option Finding) (f : Option MetaFault) → first_of (in_metadata limits given types d) ≡ o → first_fault limits given types d ≡ f
          → IsLeastFault limits given types d f → f ≡ option_map (λ (x : Finding). x.fault) o
      by None None h k least = refl
      by None (Some f) h k least =
          absurd (clash (has_fault limits given types d f) least.0 (sym (all_found limits given types d f) ∙ none_is_first (in_metadata limits given types d) h f))
      by (Some x) None h k least =
          absurd (clash (has_fault limits given types d x.fault) (sym (all_found limits given types d x.fault) ∙ has_first (in_metadata limits given types d) x h) (least x.fault))
      by (Some x) (Some f) h k least =
          ap Some
          (equal f x h (least.1 x.fault (sym (all_found limits given types d x.fault) ∙ has_first (in_metadata limits given types d) x h)) least.0
          (nat_lt (fault_number f) (fault_number x.fault)) refl)
