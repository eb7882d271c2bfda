-- Claims and their seats as codes, for the board that they share.
use Rattle.std.specs.Prelude.{ℕ, Bool, List, refl}
use Rattle.std.specs.Coded.{Coded, code_by, coded×, coded_ℕ, coded_bool, coded_list}
use Rattle.atomic_table.specs.Seated.{TableId, table_id_coded}
use Rattle.oim_crew.specs.Claims.{Claiming, Drawer}

abbrev pub claiming_coded : {V : Type 0} → Coded V → Coded (Claiming V)
claiming_coded {V} c =
    code_by (TableId × (List V × ℕ)) (coded× table_id_coded (coded× (coded_list c) coded_ℕ)) (λ (e : Claiming V). (e.id, (e.items, e.workers)))
    (λ p. record { id = p.0; items = p.1.0; workers = p.1.1 }) (λ _. refl)

abbrev pub drawer_coded : {V : Type 0} → Coded V → Coded (Drawer V)
drawer_coded {V} c =
    code_by (Claiming V × (List ℕ × Bool)) (coded× (claiming_coded c) (coded× (coded_list coded_ℕ) coded_bool)) (λ (e : Drawer V). (e.claims, (e.numbers, e.finished)))
    (λ p. record { claims = p.0; numbers = p.1.0; finished = p.1.1 }) (λ _. refl)
