-- How sources are opened, one after another, and given back.
use Rattle.std.proofs.Common.{◌≡◌, ◌<◌, ◌+◌, ℕ, suc, List, [], ◌∷◌, ◌++◌, inl, inr, map, take, drop, get_or, length, Option, Some, None, refl, sym, ◌∙◌, ap, subst, append_assoc}
use Rattle.std.proofs.Math.Seq.{drop-cons}
use Rattle.std.proofs.lemmas.List.{map-append, take-append-drop, take_more}
use Rattle.std.specs.Prelude.{IfSome, IsSome}
use Rattle.std.specs.List.{AllByRecursion}
use Rattle.poet_io.specs.declared.files.OpenError.{OpenError}
use Rattle.poet_io.specs.declared.files.OpenError.TheVariants.{Absent, Failed, Oom}
use Rattle.poet_io.specs.FilesState.{FilesState}
use Rattle.poet_io.specs.Folder.{Folder, IsOpenedAt}
use Rattle.poet_io.specs.GivenBack.{AreGivenBack, ClosedFile, IsNotOpened}
use Rattle.poet_io.specs.SourceState.{SourceState}
use Rattle.poet_io.proofs.CallerLemmas.{given_back_more, none_given_back}
use Rattle.run_files.specs.Sources.{AreOpenedAt, IsOpenFile, IsOpenIn, IsStuck, WereGivenBack, file_of}
use Rattle.run_files.specs.Files.{WasNotOpened}
use Rattle.run_files.specs.Troubles.{NoMemory, NotOpened, NotRead, ScriptRefused, TargetRefused, Trouble, trouble_of_opening}

-- one more was opened
pub opened_more : (told : Option Folder) (names : List (List ℕ)) (sources : List SourceState) (name : List ℕ) (source : SourceState) → AreOpenedAt told names sources → IfSome told (λ folder. IsOpenedAt folder name source) → source.faults ≡ 0 → AreOpenedAt told (names ++ name ∷ []) (sources ++ source ∷ [])
opened_more told [] [] name source before opened fresh = ((opened, fresh), tt)
opened_more told [] (s ∷ ss) name source before opened fresh = absurd before
opened_more told (n ∷ ns) [] name source before opened fresh = absurd before
opened_more told (n ∷ ns) (s ∷ ss) name source before opened fresh = (before.0, opened_more told ns ss name source before.1 opened fresh)

-- a source that was opened is open
open_once : (told : Option Folder) (name : List ℕ) (source : SourceState) → IfSome told (λ folder. IsOpenedAt folder name source) → IsOpenIn told source
open_once None name source opened = tt
open_once (Some folder) name source opened = there (folder name) refl opened.there
  where
    there : (stands : Option (List ℕ)) → folder name ≡ stands → IsSome (folder name) → IsOpenFile folder source
    there None is some = absurd (let none = is in cc)
    there (Some bytes) is some = record { name = name; name_is = opened.named; left = bytes; left_is = opened.whole ∙ is; read = []; whole = is }

-- all that were opened are open
pub are_open : (told : Option Folder) (names : List (List ℕ)) (sources : List SourceState) → AreOpenedAt told names sources → AllByRecursion (IsOpenIn told) sources
are_open told [] [] opened = tt
are_open told [] (s ∷ ss) opened = absurd opened
are_open told (n ∷ ns) [] opened = absurd opened
are_open told (n ∷ ns) (s ∷ ss) opened = (open_once told n s opened.0.0, are_open told ns ss opened.1)

-- sources were given back, and then others
pub back_more : (sources others : List SourceState) (a b c : FilesState) → WereGivenBack sources a b → WereGivenBack others b c → WereGivenBack (sources ++ others) a c
back_more sources others a b c one two = subst (λ (files : List ClosedFile). AreGivenBack files a c) (sym (map-append file_of sources others)) (given_back_more (map file_of sources) (map file_of others) a b c one two)

-- none was given back
pub none_back : (files : FilesState) → WereGivenBack [] files files
none_back files = none_given_back files

-- the first of them is open, and so are the others
pub open_first : {A : Type 0} (state : A → SourceState) (told : Option Folder) (all : List A) (one : A) (others : List A) → all ≡ one ∷ others → AllByRecursion (IsOpenIn told) (map state all) → IsOpenIn told (state one) × AllByRecursion (IsOpenIn told) (map state others)
open_first state told all one others is opens = subst (λ items. AllByRecursion (IsOpenIn told) (map state items)) is opens

-- the first of them was given back, too
pub back_first : {A : Type 0} (state : A → SourceState) (sources all : List A) (one : A) (others : List A) (back : List SourceState) → map state sources ≡ back ++ map state all → all ≡ one ∷ others → map state sources ≡ (back ++ state one ∷ []) ++ map state others
back_first state sources all one others back whole is = whole ∙ (ap (λ items. back ++ map state items) is ∙ sym (append_assoc back (state one ∷ []) (map state others)))

-- opening files in their order, one name after another
module _ {X : Type 0} (f : X → List ℕ) (xs : List X) (i : ℕ) (default : X) (within : i < length xs) where
  pub names_split : map f xs ≡ map f (take i xs) ++ f (get_or xs i default) ∷ map f (drop (suc i) xs)
  names_split = ap (map f) (sym (take-append-drop i xs) ∙ ap (λ rest. take i xs ++ rest) (drop-cons xs i default within)) ∙ map-append f (take i xs) (get_or xs i default ∷ drop (suc i) xs)

  -- the first names with one more
  pub names_more : map f (take (i + 1) xs) ≡ map f (take i xs) ++ f (get_or xs i default) ∷ []
  names_more = ap (map f) (take_more xs i default within) ∙ map-append f (take i xs) (get_or xs i default ∷ [])

  pub opened_next : (told : Option Folder) (sources : List SourceState) (source : SourceState) → AreOpenedAt told (map f (take i xs)) sources → IfSome told (λ folder. IsOpenedAt folder (f (get_or xs i default)) source) → source.faults ≡ 0 → AreOpenedAt told (map f (take (i + 1) xs)) (sources ++ source ∷ [])
  opened_next told sources source before opened fresh = subst (λ names. AreOpenedAt told names (sources ++ source ∷ [])) (sym names_more) (opened_more told (map f (take i xs)) sources (f (get_or xs i default)) source before opened fresh)

  -- the next one wasn't opened
  pub stuck : (before after : FilesState) (opened : List SourceState) (error : OpenError) → IsNotOpened error (f (get_or xs i default)) before after → AreOpenedAt before.folder (map f (take i xs)) opened → IsStuck (map f xs) before after opened (trouble_of_opening error (f (get_or xs i default)))
  stuck before after opened Absent isnt are = (map f (take i xs), map f (drop (suc i) xs), names_split, are, inr isnt)
  stuck before after opened Failed isnt are = (map f (take i xs), map f (drop (suc i) xs), names_split, are, inl isnt)
  stuck before after opened Oom isnt are = (map f (take i xs), f (get_or xs i default) ∷ map f (drop (suc i) xs), names_split, are, isnt)

-- what was opened before a file that wasn't is open
pub stuck_open : (names : List (List ℕ)) (before between : FilesState) (opened : List SourceState) (trouble : Trouble) → IsStuck names before between opened trouble → AllByRecursion (IsOpenIn between.folder) opened
stuck_open names before between opened (NotOpened its) stuck = subst (λ (told : Option Folder). AllByRecursion (IsOpenIn told) opened) (sym (same_folder its before between stuck.4)) (are_open before.folder stuck.0 opened stuck.3)
  where
    same_folder : (name : List ℕ) (before between : FilesState) → WasNotOpened name before between → between.folder ≡ before.folder
    same_folder name before between (inl failed) = failed.same_folder
    same_folder name before between (inr absent) = ap (λ (s : FilesState). s.folder) absent.0
stuck_open names before between opened (NotRead its) stuck = absurd stuck
stuck_open names before between opened (TargetRefused error) stuck = absurd stuck
stuck_open names before between opened (ScriptRefused asker error) stuck = absurd stuck
stuck_open names before between opened NoMemory stuck = subst (λ (s : FilesState). AllByRecursion (IsOpenIn s.folder) opened) (sym stuck.4) (are_open before.folder stuck.0 opened stuck.3)
