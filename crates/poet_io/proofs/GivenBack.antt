-- What files that were opened, read and given back leave in their folder.
use Rattle.std.proofs.Common.{◌≡◌, ℕ, ◌<◌, List, [], ◌∷◌, ◌++◌, map, Option, Some, None, Bool, true, false, inl, inr, refl, sym, ◌∙◌, ap, subst, arith, append_assoc, append-nil}
use Rattle.std.specs.Prelude.{IfSome, IsSome, MatchBool, ◌↔◌, nat_lt, ◌||◌}
use Rattle.std.specs.List.{AllByRecursion, list_any}
use Rattle.std.specs.Option.{option_map}
use Rattle.std.proofs.lemmas.Bool.{lt-ltb, cases_lt}
use Rattle.std.proofs.lemmas.List.{map-append}
use Rattle.std.proofs.lemmas.List.Folds.{list_any-append}
use Rattle.poet_io.specs.declared.uses.Use.{Use}
use Rattle.poet_io.specs.declared.uses.Use.TheVariants.{Closed}
use Rattle.poet_io.specs.Faults.{IsRaised}
use Rattle.poet_io.specs.FilesState.{FilesState}
use Rattle.poet_io.specs.Folder.{Folder, IsOpenedAt}
use Rattle.poet_io.specs.GivenBack.{ClosedFile, use_of, LeftAnEnd, AreGivenBack}
use Rattle.poet_io.specs.SourceState.{SourceState}
use Rattle.poet_io.specs.Takes.{LeavesRest}
use Rattle.poet_io.specs.Uses.{GainsAll, Gains, NotesClose}

-- what is left, where it is told
abbrev pub told_left : Option (List ℕ) → List ℕ
told_left None = []
told_left (Some left) = left

-- What is known of a file over its life: as it was opened and as it was given back, and of the folder before and after that.
pub record FileLife (name : List ℕ) (before after : FilesState) : Type 0 where
  pub first : SourceState
  pub last : SourceState
  pub opened : IfSome before.folder (λ folder. IsOpenedAt folder name first)
  pub same_name : last.name ≡ first.name
  pub rest : LeavesRest first.left last.left
  pub tells_both : IsSome before.folder ↔ IsSome before.uses
  pub same_folder : after.folder ≡ before.folder
  pub no_fault : last.faults ≡ 0 → after.faults ≡ before.faults
  pub fault : 0 < last.faults → IsRaised before.faults after.faults
  pub noted : NotesClose last before.uses after.uses

-- the file as it was given back
abbrev pub closed_file : (name : List ℕ) → SourceState → ClosedFile
closed_file name last = record { name = name; left = told_left last.left; failed = nat_lt 0 last.faults }

module _ (name : List ℕ) (before after : FilesState) (life : FileLife name before after) where
  -- where it was opened in a folder that tells, something is left of it
  left_told : (folder : Folder) → IsOpenedAt folder name life.first → (first last : Option (List ℕ)) → life.first.left ≡ first → life.last.left ≡ last → first ≡ option_map (λ left. life.rest.0 ++ left) last → (life.last.left ≡ Some (told_left last)) × (folder name ≡ Some (life.rest.0 ++ told_left last))
  left_told folder opened first (Some left) is_first is_last rest = (is_last, sym opened.whole ∙ (is_first ∙ rest))
  left_told folder opened first None is_first is_last rest = absurd (
      let none : folder name ≡ None = sym opened.whole ∙ (is_first ∙ rest) in
      let there = opened.there in
      cc)

  told : (folder : Folder) → IsOpenedAt folder name life.first → (life.last.left ≡ Some (told_left life.last.left)) × (folder name ≡ Some (life.rest.0 ++ told_left life.last.left))
  told folder opened = left_told folder opened life.first.left life.last.left refl refl life.rest.1

  an_end : (told_folder : Option Folder) → IfSome told_folder (λ folder. IsOpenedAt folder name life.first) → LeftAnEnd told_folder (closed_file name life.last)
  an_end None opened = tt
  an_end (Some folder) opened = (life.rest.0, (told folder opened).1)

  noted_one : (uses : Option (List Use)) → (folder : Folder) → IsOpenedAt folder name life.first → NotesClose life.last uses after.uses → Gains uses after.uses (use_of (closed_file name life.last))
  noted_one None folder opened notes = notes
  noted_one (Some uses) folder opened notes =
      let its_name : Some notes.0 ≡ Some name = sym notes.2 ∙ (life.same_name ∙ opened.named) in
      let its_left : Some notes.1 ≡ Some (told_left life.last.left) = sym notes.3 ∙ (told folder opened).0 in
      let names : notes.0 ≡ name = cc in
      let lefts : notes.1 ≡ told_left life.last.left = cc in
      notes.4
      ∙ (ap (λ n. Some (uses ++ Closed n notes.1 (nat_lt 0 life.last.faults) ∷ [])) names
      ∙ ap (λ l. Some (uses ++ Closed name l (nat_lt 0 life.last.faults) ∷ [])) lefts)

  -- where nothing is told, nothing is told after
  noted_where : (told_folder : Option Folder) (uses : Option (List Use)) → IsSome told_folder ↔ IsSome uses → IfSome told_folder (λ folder. IsOpenedAt folder name life.first) → NotesClose life.last uses after.uses → Gains uses after.uses (use_of (closed_file name life.last))
  noted_where (Some folder) uses both opened notes = noted_one uses folder opened notes
  noted_where None None both opened notes = notes
  noted_where None (Some uses) both opened notes = let none = both.1 refl in cc

  counted : (failed : Bool) → nat_lt 0 life.last.faults ≡ failed → MatchBool failed (IsRaised before.faults after.faults) (after.faults ≡ before.faults)
  counted true is = life.fault (some_fault life.last.faults is)
    where
      some_fault : (n : ℕ) → nat_lt 0 n ≡ true → 0 < n
      some_fault n is = elim (cases_lt 0 n) [ inl some ↦ some | inr none ↦ (let zero : n ≡ 0 = omega (arith, none) in absurd (let no = ap (nat_lt 0) zero in cc)) ]
  counted false is = life.no_fault (no_fault_told life.last.faults is)
    where
      no_fault_told : (n : ℕ) → nat_lt 0 n ≡ false → n ≡ 0
      no_fault_told n is = elim (cases_lt 0 n) [ inl some ↦ absurd (let yes = lt-ltb 0 n some in cc) | inr none ↦ omega (arith, none) ]

  one_fault : (failed : Bool) → MatchBool failed (IsRaised before.faults after.faults) (after.faults ≡ before.faults) → MatchBool (failed || false) (IsRaised before.faults after.faults) (after.faults ≡ before.faults)
  one_fault true counted = counted
  one_fault false counted = counted

  -- it was given back
  pub given_back : AreGivenBack (closed_file name life.last ∷ []) before after
  given_back = record {
    same_folder = life.same_folder;
    ends = (an_end before.folder life.opened, tt);
    noted = noted_where before.folder before.uses life.tells_both life.opened life.noted;
    faults = one_fault (nat_lt 0 life.last.faults) (counted (nat_lt 0 life.last.faults) refl);
  }

-- how the count of faults goes on over two times
counts_both : (first second : Bool) (a b c : ℕ) → MatchBool first (IsRaised a b) (b ≡ a) → MatchBool second (IsRaised b c) (c ≡ b) → MatchBool (first || second) (IsRaised a c) (c ≡ a)
counts_both true true a b c one two = record {
  no_less = (let less = one.no_less in let more = two.no_less in omega (arith, less, more));
  more_or_last = elim two.more_or_last [ inl more ↦ inl (let less = one.no_less in omega (arith, less, more)) | inr last ↦ inr last ];
}
counts_both true false a b c one two = subst (IsRaised a) (sym two) one
counts_both false true a b c one two = subst (λ n. IsRaised n c) one two
counts_both false false a b c one two = two ∙ one

-- what became of files goes on over two times
gains_both : (a b c : Option (List Use)) (some more : List Use) → GainsAll a b some → GainsAll b c more → GainsAll a c (some ++ more)
gains_both None b c some more one two = two ∙ ap (option_map (λ uses. uses ++ more)) one
gains_both (Some uses) b c some more one two = two ∙ (ap (option_map (λ uses. uses ++ more)) one ∙ ap Some (append_assoc uses some more))

all_both : {A : Type 0} (P : A → Type 0) (xs ys : List A) → AllByRecursion P xs → AllByRecursion P ys → AllByRecursion P (xs ++ ys)
all_both P [] ys some more = more
all_both P (x ∷ xs) ys some more = (some.0, all_both P xs ys some.1 more)

-- files that were given back, and then others
pub given_back_more : (files others : List ClosedFile) (a b c : FilesState) → AreGivenBack files a b → AreGivenBack others b c → AreGivenBack (files ++ others) a c
given_back_more files others a b c one two = record {
  same_folder = two.same_folder ∙ one.same_folder;
  ends = all_both (LeftAnEnd a.folder) files others one.ends (subst (λ folder. AllByRecursion (LeftAnEnd folder) others) one.same_folder two.ends);
  noted = subst (GainsAll a.uses c.uses) (sym (map-append use_of files others)) (gains_both a.uses b.uses c.uses (map use_of files) (map use_of others) one.noted two.noted);
  faults = subst (λ failed. MatchBool failed (IsRaised a.faults c.faults) (c.faults ≡ a.faults)) (sym (list_any-append (λ (file : ClosedFile). file.failed) files others))
      (counts_both (list_any (λ (file : ClosedFile). file.failed) files) (list_any (λ (file : ClosedFile). file.failed) others) a.faults b.faults c.faults one.faults two.faults);
}

-- where no file is given back, nothing changes
pub none_given_back : (files : FilesState) → AreGivenBack [] files files
none_given_back files = record { same_folder = refl; ends = tt; noted = nothing files.uses; faults = refl }
  where
    nothing : (uses : Option (List Use)) → GainsAll uses uses []
    nothing None = refl
    nothing (Some uses) = ap Some (sym (append-nil uses))
