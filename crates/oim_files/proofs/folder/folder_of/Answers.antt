use Rattle.std.proofs.Common.{◌≡◌, ◌+◌, arith, rules, subst, sym, Some, None, take}
use Rattle.std.proofs.lemmas.Str.Pattern.{rfind_char}
use Rattle.oim_files.specs.Folders.{IsFolderOf}
use Rattle.oim_files.proofs.FolderFacts.{folder_at, no_folder}
use Rattle.oim_files.proofs.folder.folder_of.Goals as goal

pub returns-in-Some : goal.returns-in-Some
returns-in-Some c =
    let is : c.range.result.now ≡ take (c.in-Some.at + 1) c.args.path.now = search rules in
    subst (λ b. IsFolderOf b c.args.path.now) (sym is)
    (folder_at c.args.path.now c.in-Some.at (rfind_char 47 c.args.path.now (Some c.in-Some.at) c.in-Some.ensures.cases (omega arith)))

pub returns-in-None : goal.returns-in-None
returns-in-None c = no_folder c.args.path.now (rfind_char 47 c.args.path.now None c.in-None.ensures.cases (omega arith))
