use Rattle.std.specs.Prelude.{◌≡◌, ◌≢◌, ℕ, List, ◌∷◌, ◌++◌, All}
use Rattle.causal_base.specs.Spelling.{text_part}

-- The bytes are a time without a space, and a text behind a space where it isn't empty.
pub record IsTimeAndText (bytes time text : List ℕ) : Type 0 where
  pub whole : bytes ≡ time ++ text_part text
  pub one_word : All (λ byte. byte ≢ 32) time

-- The line is these four fields without a space, with one space between them, and the text behind
-- them.
pub record IsSplit (line id name mate time text : List ℕ) : Type 0 where
  pub whole : line ≡ id ++ 32 ∷ (name ++ 32 ∷ (mate ++ 32 ∷ (time ++ text_part text)))
  pub id_one_word : All (λ byte. byte ≢ 32) id
  pub name_one_word : All (λ byte. byte ≢ 32) name
  pub mate_one_word : All (λ byte. byte ≢ 32) mate
  pub time_one_word : All (λ byte. byte ≢ 32) time
