-- Words that arm no stop.
use Rattle.std.proofs.Common.{◌≡◌, ◌≢◌, List, [], ◌∷◌, ℕ, None, length, refl}
use Rattle.drill_script.specs.StopRequest.{request_of}

-- this many words arm no stop
pub none_armed : (words : List (List ℕ)) → length words ≢ 3 → length words ≢ 4 → None ≡ request_of words
none_armed [] three four = refl
none_armed (a ∷ []) three four = refl
none_armed (a ∷ b ∷ []) three four = refl
none_armed (a ∷ b ∷ c ∷ []) three four = absurd (three refl)
none_armed (a ∷ b ∷ c ∷ d ∷ []) three four = absurd (four refl)
none_armed (a ∷ b ∷ c ∷ d ∷ e ∷ words) three four = refl
