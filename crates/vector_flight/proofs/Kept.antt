-- What the calls of the cache leave of its entries.
use Rattle.std.proofs.Common.{◌≡◌, ℕ, ◌-◌, ◌⊎◌, inl, inr, List, [], ◌∷◌, refl, ◌∙◌, ap, subst, Bool, true, false, cond, Option, None, Some}
use Rattle.std.specs.Prelude.{Contains, slice_get, IfSome}
use Rattle.std.specs.Option.{option_map_or}
use Rattle.std.specs.Bool.{OnTrue}
use Rattle.std.specs.Map.{lookup, set_value}
use Rattle.causal_base.specs.declared.event_id.EventId.{EventId}
use Rattle.causal_base.proofs.CallerLemmas.{Contains-cons, Contains-here, Contains-there}
use Rattle.std.proofs.lemmas.List.Elements.{Contains-get_or}
use Rattle.std.proofs.lemmas.Option.{slice_get_within, get_or_from_slice_get}
use Rattle.lru.specs.LruCache.{LruCache, promoted, put_entries, displaced}
use Rattle.lru.proofs.CallerLemmas.{Contains-lookup, Contains-promoted, Contains-put_entries}

-- ids, each with a clock, or none
abbrev pub Entries : Type 0
Entries = List (EventId × Option (List ℕ))

-- a value that was written is under a key that passes, and what else is there was there
pub Contains-set_value : (test : EventId → Bool) (es : Entries) (w : Option (List ℕ)) (e : EventId × Option (List ℕ)) → Contains (set_value test es w) e → Contains es e ⊎ ((test e.0 ≡ true) × (e.1 ≡ w))
Contains-set_value test [] w e there = inl there
Contains-set_value test (f ∷ es) w e there =
    (elim (test f.0) as (λ b. test f.0 ≡ b → Contains (cond b ((f.0, w) ∷ es) (f ∷ set_value test es w)) e → Contains (f ∷ es) e ⊎ ((test e.0 ≡ true) × (e.1 ≡ w))) [
      | true ↦ λ passes inside. elim (Contains-cons (f.0, w) es e inside) [
        | inl is ↦ inr (subst (λ (g : EventId × Option (List ℕ)). (test g.0 ≡ true) × (g.1 ≡ w)) is (passes, refl))
        | inr rest ↦ inl (Contains-there f es e rest)
      ]
      | false ↦ λ fails inside. elim (Contains-cons f (set_value test es w) e inside) [
        | inl is ↦ inl (subst (λ (g : EventId × Option (List ℕ)). Contains (f ∷ es) g) is (Contains-here f es))
        | inr rest ↦ elim (Contains-set_value test es w e rest) [ inl old ↦ inl (Contains-there f es e old) | inr new ↦ inr new ]
      ]
    ]) refl there

module _ (test : EventId → Bool) (id : EventId) (one : (key : EventId) → test key ≡ true → key ≡ id) (now es after : Entries) (same : es ≡ now) where
  -- after a write for an id what is there was there, or is what was written
  pub written : (clock : List ℕ) → after ≡ set_value test es (Some clock) → (key : EventId) (other : List ℕ) → Contains after (key, Some other) → Contains now (key, Some other) ⊎ ((key ≡ id) × (other ≡ clock))
  written clock is key other there =
      elim (Contains-set_value test es (Some clock) (key, Some other) (subst (λ (xs : Entries). Contains xs (key, Some other)) is there)) [
        | inl old ↦ inl (subst (λ (xs : Entries). Contains xs (key, Some other)) same old)
        | inr new ↦ inr (one key new.0, let wrapped : Some other ≡ Some clock = new.1 in cc)
      ]

  -- where nothing was written, what is there was there
  pub unwritten : after ≡ es → (key : EventId) (other : List ℕ) → Contains after (key, Some other) → Contains now (key, Some other)
  unwritten is key other there = subst (λ (xs : Entries). Contains xs (key, Some other)) (is ∙ same) there

  -- what a look-up finds is the clock of that id
  pub found : (clock : List ℕ) (kept : Option (List ℕ)) → lookup test es ≡ Some kept → kept ≡ Some clock → Contains now (id, Some clock)
  found clock kept here value =
      let is = here ∙ ap Some value in
      let it = Contains-lookup test es (Some clock) is in
      subst (λ (key : EventId). Contains now (key, Some clock)) (one it.0 it.2) (subst (λ (xs : Entries). Contains xs (it.0, Some clock)) same it.1)

  -- so is what may be there
  pub found_each : (P : List ℕ → Type 0) → ((clock : List ℕ) → Contains now (id, Some clock) → P clock) → (kept : Option (List ℕ)) → lookup test es ≡ Some kept → IfSome kept P
  found_each P each None here = tt
  found_each P each (Some clock) here = each clock (found clock (Some clock) here refl)

  -- a look-up changes only the order
  pub looked_up : after ≡ promoted test es → (key : EventId) (clock : List ℕ) → Contains after (key, Some clock) → Contains now (key, Some clock)
  looked_up is key clock there =
      subst (λ (xs : Entries). Contains xs (key, Some clock)) same (Contains-promoted test es (key, Some clock) (subst (λ (xs : Entries). Contains xs (key, Some clock)) is there))

module _ (eq : EventId → EventId → Bool) (id : EventId) (cache : LruCache EventId (Option (List ℕ))) where
  -- making room puts no clock there
  pub reserved : (key : EventId) (clock : List ℕ) → Contains (put_entries eq cache id None) (key, Some clock) → Contains cache.entries (key, Some clock)
  reserved key clock there = elim (Contains-put_entries eq cache id None (key, Some clock) there) [
    | inl old ↦ old
    | inr new ↦ absurd (let none : Some clock ≡ None = new.0 in cc)
  ]

  -- the pair that was pushed out
  abbrev out : Option (Option (List ℕ)) → Option (EventId × Option (List ℕ))
  out known = option_map_or (λ old. Some (id, old)) known (slice_get cache.entries (cache.cap - 1))

  pushed_out : (key : EventId) (clock : List ℕ) (known : Option (Option (List ℕ))) → lookup (eq id) cache.entries ≡ known → out known ≡ Some (key, Some clock) → (k : EventId) × Contains cache.entries (k, Some clock)
  pushed_out key clock None h is =
      let at = cache.cap - 1 in
      let within = slice_get_within cache.entries at (key, Some clock) is in
      let value = get_or_from_slice_get cache.entries at (key, Some clock) (key, Some clock) is in
      (key, subst (λ (e : EventId × Option (List ℕ)). Contains cache.entries e) value (Contains-get_or cache.entries at (key, Some clock) within))
  pushed_out key clock (Some old) h is =
      let pair : (id, old) ≡ (key, Some clock) = cc in
      let same : old ≡ Some clock = ap (λ (e : EventId × Option (List ℕ)). e.1) pair in
      let it = Contains-lookup (eq id) cache.entries (Some clock) (h ∙ ap Some same) in
      (it.0, it.1)

  -- it was there
  pub dropped : (key : EventId) (out : Option (List ℕ)) → displaced eq cache id None ≡ Some (key, out) → IfSome out (λ clock. (k : EventId) × Contains cache.entries (k, Some clock))
  dropped key None is = tt
  dropped key (Some clock) is = pushed_out key clock (lookup (eq id) cache.entries) refl is

-- what follows where the answer is yes
pub on_true : (answer : Bool) (P Q : Type 0) → (P → Q) → OnTrue answer P → OnTrue answer Q
on_true true P Q follows is = follows is
on_true false P Q follows is = tt
