-- Parts that are added one by one are joined by one space.
use Rattle.std.proofs.Common.{◌≡◌, ℕ, List, [], ◌∷◌, ◌++◌, refl, ◌∙◌, append_assoc}
use Rattle.std.specs.List.{join_with_byte}
use Rattle.oim_schema.specs.Members.{filled}
use Rattle.oim_schema.specs.state.HeldMembers.{with_part}

-- The text after these parts.
unfoldable pub with_parts : List ℕ → List (List ℕ) → List ℕ
with_parts so_far [] = so_far
with_parts so_far (part ∷ parts) = with_parts (with_part so_far part) parts

behind : (d : ℕ) (ds : List ℕ) (parts : List (List ℕ)) → with_parts (d ∷ ds) parts ≡ join_with_byte 32 ((d ∷ ds) ∷ filled parts)
unfolding with_parts
behind d ds [] = refl
behind d ds ([] ∷ parts) = behind d ds parts
behind d ds ((c ∷ cs) ∷ parts) = behind d (ds ++ 32 ∷ c ∷ cs) parts ∙ by (filled parts)
  where
    by : (rest : List (List ℕ)) → join_with_byte 32 ((d ∷ ds ++ 32 ∷ c ∷ cs) ∷ rest) ≡ join_with_byte 32 ((d ∷ ds) ∷ (c ∷ cs) ∷ rest)
    by [] = refl
    by (x ∷ rest) = append_assoc (d ∷ ds) (32 ∷ c ∷ cs) (32 ∷ join_with_byte 32 (x ∷ rest))

pub all_joined : (parts : List (List ℕ)) → with_parts [] parts ≡ join_with_byte 32 (filled parts)
unfolding with_parts
all_joined [] = refl
all_joined ([] ∷ parts) = all_joined parts
all_joined ((c ∷ cs) ∷ parts) = behind c cs parts
