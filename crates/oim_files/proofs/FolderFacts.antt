-- The folder of a path, found by its last slash.
use Rattle.std.proofs.Common.{◌≡◌, ◌≢◌, ◌∙◌, refl, sym, ap, arith, ℕ, ◌+◌, ◌<◌, List, [], ◌∷◌, ◌++◌, length, get_or, take, drop, inl, inr}
use Rattle.std.proofs.lemmas.List.{get_or-drop, length-drop, take-append-drop, take_more}
use Rattle.std.proofs.lemmas.List.Elements.{All-from_get_or}
use Rattle.oim_files.specs.Folders.{IsFolderOf}

pub no_folder : (path : List ℕ) → ((i : ℕ) → i < length path → get_or path i 0 ≢ 47) → IsFolderOf [] path
no_folder path none = record { name = path; split = refl; no_slash = All-from_get_or (λ b. b ≢ 47) path 0 none; whole = inl refl }

pub folder_at : (path : List ℕ) (k : ℕ) → (k < length path) × (get_or path k 0 ≡ 47) × ((i : ℕ) → k < i → i < length path → get_or path i 0 ≢ 47) → IsFolderOf (take (k + 1) path) path
folder_at path k found =
    record {
      name = drop (k + 1) path;
      split = sym (take-append-drop (k + 1) path);
      no_slash = All-from_get_or (λ b. b ≢ 47) (drop (k + 1) path) 0
          (λ i l e. found.2 (k + 1 + i) (omega arith) (omega (arith, l, length-drop (k + 1) path)) (sym (get_or-drop (k + 1) path i 0) ∙ e));
      whole = inr (take k path, take_more path k 0 found.0 ∙ ap (λ b. take k path ++ b ∷ []) found.1);
    }
