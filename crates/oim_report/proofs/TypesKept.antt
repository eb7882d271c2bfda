-- One more record of a types table: its kinds, and that a lookup by groups gives them.
use Rattle.std.proofs.Common.{◌≡◌, ◌∙◌, ℕ, List, [], ◌∷◌, Option, Some, None, Bool, true, false, ◌&&◌, ◌||◌, if◌then◌else◌, refl, sym, ap}
use Rattle.std.proofs.lemmas.List.Folds.{find-append, list_any-append}
use Rattle.std.specs.Option.{option_map, option_or}
use Rattle.std.specs.List.{find}
use Rattle.std.specs.Str.{bytes_eq}
use Rattle.oim_report.specs.state.Named.{ExtendsUnder, Grouped, value_under}
use Rattle.oim_report.specs.Types.{TypesValue, has_members, is_member, is_of, kind_in}
use Rattle.oim_report.specs.state.Types.{GivesKinds}
use Rattle.oim_report.specs.Types.{with_kind}
use Rattle.oim_report.specs.declared.kind.Kind.{Kind}
use Rattle.oim_report.specs.declared.typed_name.TypedName.{TypedName}
use Rattle.oim_report.proofs.NamedFacts.{same-bytes}

pub or-none : {A : Type 0} (o : Option A) → option_or o None ≡ o
or-none None = refl
or-none (Some x) = refl

map-or : {A B : Type 0} (f : A → B) (a b : Option A) → option_map f (option_or a b) ≡ option_or (option_map f a) (option_map f b)
map-or f None b = refl
map-or f (Some x) b = refl

-- The kinds after one more record.
pub said-more : (types : TypesValue) (u l uri local : List ℕ) (k : Kind)
    → kind_in (with_kind types u l k) uri local ≡ option_or (kind_in types uri local) (if bytes_eq u uri && bytes_eq l local then Some k else None)
said-more types u l uri local k =
    ap (option_map kind) (find-append (is_of uri local) types (last ∷ []))
    ∙ map-or kind (find (is_of uri local) types) (find (is_of uri local) (last ∷ []))
    ∙ ap (option_or (kind_in types uri local)) (by (is_of uri local last))
  where
    kind : TypedName → Kind
    kind name = name.kind

    last : TypedName
    last = record { uri = u; local = l; kind = k }

    by : (b : Bool) → option_map kind (if b then Some last else None) ≡ (if b then Some k else None)
    by true = refl
    by false = refl

both : (a b : Bool) → (a && b) ≡ true → (a ≡ true) × (b ≡ true)
both true true h = (refl, refl)
both true false h = cc h
both false b h = cc h

-- Groups with one more kind give what the records with one more give.
pub kept-more : (groups more : Grouped Kind) (types : TypesValue) (u l : List ℕ) (k : Kind) → GivesKinds groups types → kind_in types u l ≡ None
    → ExtendsUnder groups u l k more → GivesKinds more (with_kind types u l k)
kept-more groups more types u l k kept none extends =
    λ uri local. extends uri local ∙ by uri local (bytes_eq u uri && bytes_eq l local) refl ∙ sym (said-more types u l uri local k)
  where
    by : (uri local : List ℕ) (b : Bool) → (bytes_eq u uri && bytes_eq l local) ≡ b
        → (if b then Some k else value_under groups uri local) ≡ option_or (kind_in types uri local) (if b then Some k else None)
    by uri local true h =
        let same = both (bytes_eq u uri) (bytes_eq l local) h in
        let absent : kind_in types uri local ≡ None = rw (← same-bytes u uri same.0, ← same-bytes l local same.1) none in
        rw absent refl
    by uri local false h = kept uri local ∙ sym (or-none (kind_in types uri local))

or-false : (b : Bool) → (b || false) ≡ b
or-false true = refl
or-false false = refl

-- One more record names a member, or an earlier one did.
pub members-more : (members : Bool) (types : TypesValue) (u l : List ℕ) (k : Kind) → members ≡ has_members types
    → (members || is_member k) ≡ has_members (with_kind types u l k)
members-more members types u l k kept =
    ap (λ b. b || is_member k) kept
    ∙ ap (λ b. has_members types || b) (sym (or-false (is_member k)))
    ∙ sym (list_any-append (λ (name : TypedName). is_member name.kind) types (record { uri = u; local = l; kind = k } ∷ []))
