use Rattle.std.proofs.Common.{inl, inr, ◌∙◌, sym, ap}
use Rattle.oim_records.specs.state.Places.{is_quoted}
use Rattle.oim_records.proofs.WordBits.{set-all, set-none}
use Rattle.oim_records.proofs.blocks.quoted_bits.Goals as goal

pub returns-in-Quoted : goal.returns-in-Quoted
returns-in-Quoted c k lt = set-all k lt ∙ sym (ap is_quoted c.in-Quoted.is)

pub returns-in-Between : goal.returns-in-Between
returns-in-Between c k lt = set-none k lt ∙ elim c.in-Between.is [
  | inl e ↦ sym (ap is_quoted e)
  | inr r ↦ elim r [
    | inl e ↦ sym (ap is_quoted e)
    | inr r ↦ elim r [
      | inl e ↦ sym (ap is_quoted e)
      | inr e ↦ sym (ap is_quoted e)
    ]
  ]
]
