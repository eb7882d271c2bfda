use Rattle.std.proofs.Common.{◌≡◌, ◌≤◌, ◌∙◌, ap, sym, subst, arith, length, take, Vec, Global, ℕ}
use Rattle.std.specs.Str.{IsUtf8}
use Rattle.oim_records.specs.state.Fields.{fields_in}
use Rattle.oim_records.specs.state.KeptTexts.{HoldsFile}
use Rattle.oim_records.proofs.FileTexts.{file-unread}
use Rattle.oim_records.proofs.PieceReads.{none-read}
use Rattle.oim_records.proofs.piece_records.PieceRecords.replace.Goals as goal

pub invariant_of-self : goal.invariant_of-self
invariant_of-self c =
    let bytes = c.replace.new.dest.items in
    let ranges = c.clear.new.self.items in
    let high : c.args.end ≤ length bytes = subst (λ (v : Vec ℕ Global). c.args.end ≤ length v.items) (sym c.replace.ensures.after) c.requires in
    let same : c.deref.result.now ≡ bytes = c.deref.ensures.value ∙ sym (ap (λ (v : Vec ℕ Global). v.items) c.replace.ensures.after) in (
      none-read bytes c.args.end ranges c.is_text-self-inside.result high c.clear.ensures.items
          (λ t. subst (λ xs. IsUtf8 (take c.args.end xs)) same (c.is_text-self-inside.ensures.0 t)),
      subst (λ k. HoldsFile k bytes c.args.end 0 0 (fields_in bytes ranges)) (sym c.forget.ensures)
          (file-unread bytes c.args.end 0 0 (fields_in bytes ranges) (omega arith) (ap (fields_in bytes) c.clear.ensures.items)),
    )
