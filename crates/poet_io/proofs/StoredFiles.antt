-- What is found among the files of a folder in memory.
use Rattle.std.proofs.Common.{◌≡◌, Bool, true, false, cond, ◌⊎◌, inl, inr, ℕ, List, [], ◌∷◌, Option, Some, refl, find}
use Rattle.std.proofs.lemmas.Slice.Eq.{bytes_eq-Decides}
use Rattle.poet_io.specs.Folder.{IsOpenedAt}
use Rattle.poet_io.specs.MemFile.{MemFileState}
use Rattle.poet_io.specs.MemFolder.{StoredState, bytes_at, file_at, opened}

head_or_rest : {X : Type 0} (b : Bool) (y x : X) (rest : Option X) → cond b (Some y) rest ≡ Some x → ((b ≡ true) × (y ≡ x)) ⊎ (rest ≡ Some x)
head_or_rest true y x rest e = inl (refl, cc)
head_or_rest false y x rest e = inr e

-- what is found passes the test
found_passes : {X : Type 0} (test : X → Bool) (xs : List X) (x : X) → find test xs ≡ Some x → test x ≡ true
found_passes test [] x e = cc
found_passes test (y ∷ ys) x e =
    elim (head_or_rest (test y) y x (find test ys) e) [ inl h ↦ rw h.1 at h.0 | inr rest ↦ found_passes test ys x rest ]

-- a stored file that was opened is what stands under its name
pub opened_at : (files : List StoredState) (name : List ℕ) (file : MemFileState) → (stored : StoredState) × (file_at files name ≡ Some stored) × (file ≡ opened stored) → IsOpenedAt (bytes_at files) name (record { faults = file.source.faults; left = Some file.source.left; name = Some file.name })
opened_at files name file found =
    let stored = found.0 in
    let named : stored.name ≡ name = (bytes_eq-Decides stored.name name).0 (found_passes _ files stored found.1) in
    record {
      there = rw found.1 refl;
      named = rw (found.2, named) refl;
      whole = rw (found.1, found.2) refl;
    }
