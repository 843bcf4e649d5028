-- How the scripts of the clients are read, one after another, and what bytes of a file say.
use Rattle.std.proofs.Common.{◌≡◌, ◌<◌, ◌+◌, ℕ, suc, inl, inr, List, [], ◌∷◌, ◌++◌, map, take, drop, get_or, length, Option, Some, None, refl, sym, ◌∙◌, subst, arith}
use Rattle.std.specs.Prelude.{IfSome}
use Rattle.std.proofs.lemmas.List.{length-map, length-take-le}
use Rattle.run_files.proofs.Openings.{names_more, names_split}
use Rattle.causal_base.specs.Types.{TypeTable}
use Rattle.client_session.specs.declared.command.Command.{Command}
use Rattle.poet_io.specs.FilesState.{FilesState}
use Rattle.poet_io.specs.Folder.{Folder}
use Rattle.run_files.specs.declared.fault.Asker.TheVariants.{Client}
use Rattle.run_files.specs.Files.{TellsOf, WasGivenBack, WasRead}
use Rattle.run_files.specs.Loading.{LackScripts, LacksScript, SayScripts, SaysScript}
use Rattle.run_files.specs.Troubles.{Trouble}

-- what is told of the bytes of a file, and what follows from it
pub tells_more : (files : FilesState) (name : List ℕ) (P Q : List ℕ → Type 0) → ((bytes : List ℕ) → P bytes → Q bytes) → TellsOf files name P → TellsOf files name Q
tells_more files name P Q follows tells = where_told files.folder tells
  where
    where_told : (told : Option Folder) → IfSome told (λ folder. (bytes : List ℕ) × (folder name ≡ Some bytes) × P bytes) → IfSome told (λ folder. (bytes : List ℕ) × (folder name ≡ Some bytes) × Q bytes)
    where_told None tells = tt
    where_told (Some folder) tells = (tells.0, tells.1, follows tells.0 tells.2)

-- what holds of the bytes that were read holds of the file
pub given_back_so : (name : List ℕ) (before after : FilesState) (bytes : List ℕ) (Q : List ℕ → Type 0) → WasRead name before after bytes → Q bytes → WasGivenBack name before after Q
given_back_so name before after bytes Q read holds = (([], read.given_back), tells_more before name (λ its. its ≡ bytes) Q (λ its is. subst Q (sym is) holds) read.told)

-- a file with more bytes than may be read, and what follows from that
pub given_back_more : (name : List ℕ) (before after : FilesState) (P Q : List ℕ → Type 0) → ((bytes : List ℕ) → P bytes → Q bytes) → WasGivenBack name before after P → WasGivenBack name before after Q
given_back_more name before after P Q follows back = (back.0, tells_more before name P Q follows back.1)

module _ (types : TypeTable) where
  -- one more script was read
  says_more : (n k : ℕ) (names : List (List ℕ)) (scripts : List (List Command)) (a b c : FilesState) (name : List ℕ) (script : List Command) → k ≡ n + length names → SayScripts types n names a b scripts → SaysScript types (Client k) name b c script → SayScripts types n (names ++ name ∷ []) a c (scripts ++ script ∷ [])
  says_more n k [] [] a b c name script is before says =
      let at : k ≡ n = omega (arith, is) in
      (c, subst (λ (s : FilesState). SaysScript types (Client n) name s c script) before (subst (λ (m : ℕ). SaysScript types (Client m) name b c script) at says), refl)
  says_more n k [] (s ∷ ss) a b c name script is before says = absurd before
  says_more n k (m ∷ names) [] a b c name script is before says = absurd before
  says_more n k (m ∷ names) (s ∷ ss) a b c name script is before says = (before.0, before.1, says_more (suc n) k names ss before.0 b c name script (omega (arith, is)) before.2 says)

  -- one file gave no script behind those that did
  lacks_after : (n k : ℕ) (names : List (List ℕ)) (scripts : List (List Command)) (a b c : FilesState) (name : List ℕ) (others : List (List ℕ)) (trouble : Trouble) → k ≡ n + length names → SayScripts types n names a b scripts → LacksScript types (Client k) name b c trouble → LackScripts types n (names ++ name ∷ others) a c trouble
  lacks_after n k [] [] a b c name others trouble is before lacks =
      let at : k ≡ n = omega (arith, is) in
      inl (subst (λ (s : FilesState). LacksScript types (Client n) name s c trouble) before (subst (λ (m : ℕ). LacksScript types (Client m) name b c trouble) at lacks))
  lacks_after n k [] (s ∷ ss) a b c name others trouble is before lacks = absurd before
  lacks_after n k (m ∷ names) [] a b c name others trouble is before lacks = absurd before
  lacks_after n k (m ∷ names) (s ∷ ss) a b c name others trouble is before lacks = inr (before.0, s, before.1, lacks_after (suc n) k names ss before.0 b c name others trouble (omega (arith, is)) before.2 lacks)

  module _ {X : Type 0} (f : X → List ℕ) (xs : List X) (i : ℕ) (default : X) (within : i < length xs) (scripts : List (List Command)) (a b c : FilesState) where
    many : i ≡ 0 + length (map f (take i xs))
    many = let so_many : length (map f (take i xs)) ≡ i = length-map (take i xs) f ∙ length-take-le i xs (omega (arith, within)) in omega (arith, so_many)

    pub says_next : (script : List Command) → SayScripts types 0 (map f (take i xs)) a b scripts → SaysScript types (Client i) (f (get_or xs i default)) b c script → SayScripts types 0 (map f (take (i + 1) xs)) a c (scripts ++ script ∷ [])
    says_next script before says = subst (λ (names : List (List ℕ)). SayScripts types 0 names a c (scripts ++ script ∷ [])) (sym (names_more f xs i default within)) (says_more 0 i (map f (take i xs)) scripts a b c (f (get_or xs i default)) script many before says)

    pub lacks_next : (trouble : Trouble) → SayScripts types 0 (map f (take i xs)) a b scripts → LacksScript types (Client i) (f (get_or xs i default)) b c trouble → LackScripts types 0 (map f xs) a c trouble
    lacks_next trouble before lacks = subst (λ (names : List (List ℕ)). LackScripts types 0 names a c trouble) (sym (names_split f xs i default within)) (lacks_after 0 i (map f (take i xs)) scripts a b c (f (get_or xs i default)) (map f (drop (suc i) xs)) trouble many before lacks)
