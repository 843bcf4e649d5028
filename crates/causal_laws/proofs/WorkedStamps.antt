-- Worked levels and members, which hold by computation on the definitions alone.
use Rattle.std.proofs.Common.{◌≡◌, ℕ, List, [], ◌∷◌, refl, None, Some, true, false}
use Rattle.causal_base.specs.declared.event.Event.{Event}
use Rattle.causal_base.specs.declared.event_id.EventId.{EventId}
use Rattle.causal_base.specs.History.{EventBlock, alone, together}
use Rattle.causal_base.specs.Clusters.{Clustering, partition, shared_level, merges_down_to, bound_of}
use Rattle.causal_base.specs.Stamps.{level_of, members_of}
use Rattle.causal_base.proofs.CallerLemmas.{make_id}

-- events of the built-in types, by their trace and number
abbrev pub unary : ℕ → ℕ → Event
unary trace number = record { id = make_id trace number; type_no = 0; mate = None; time = 0; text = [] }

abbrev pub send : ℕ → ℕ → Event
send trace number = record { id = make_id trace number; type_no = 1; mate = None; time = 0; text = [] }

abbrev pub receive : ℕ → ℕ → EventId → Event
receive trace number sent = record { id = make_id trace number; type_no = 2; mate = Some sent; time = 0; text = [] }

abbrev pub half : ℕ → ℕ → EventId → Event
half trace number other = record { id = make_id trace number; type_no = 3; mate = Some other; time = 0; text = [] }

-- and a watch, of a type beside them
abbrev pub watch : ℕ → ℕ → EventId → Event
watch trace number watched = record { id = make_id trace number; type_no = 4; mate = Some watched; time = 0; text = [] }

-- merging at the first communication, or at the second
abbrev pub at_first : ℕ → List ℕ → Clustering
at_first traces sizes = record { traces = traces; sizes = sizes; after = 1 }

abbrev pub at_second : ℕ → List ℕ → Clustering
at_second traces sizes = record { traces = traces; sizes = sizes; after = 2 }

-- three traces, each of which hears of the one before it; clusters of at most two
abbrev pub chain : List EventBlock
chain = alone (unary 2 2) ∷ alone (receive 2 1 (make_id 1 2)) ∷ alone (send 1 2) ∷ alone (receive 1 1 (make_id 0 1)) ∷ alone (send 0 1) ∷ []

chain_levels : (level_of (at_first 3 (2 ∷ [])) chain (make_id 0 1) ≡ 1) × (level_of (at_first 3 (2 ∷ [])) chain (make_id 1 1) ≡ 1) × (level_of (at_first 3 (2 ∷ [])) chain (make_id 2 1) ≡ 2) × (level_of (at_first 3 (2 ∷ [])) chain (make_id 2 2) ≡ 1)
chain_levels = (refl, refl, refl, refl)

chain_members : (members_of (at_first 3 (2 ∷ [])) chain (make_id 0 1) ≡ 0 ∷ []) × (members_of (at_first 3 (2 ∷ [])) chain (make_id 1 1) ≡ 0 ∷ 1 ∷ []) × (members_of (at_first 3 (2 ∷ [])) chain (make_id 2 1) ≡ 0 ∷ 1 ∷ 2 ∷ []) × (members_of (at_first 3 (2 ∷ [])) chain (make_id 2 2) ≡ 2 ∷ [])
chain_members = (refl, refl, refl, refl)

-- five traces, clusters of at most two and of at most four
abbrev pub five : List EventBlock
five = alone (unary 2 6) ∷ alone (receive 2 5 (make_id 0 3)) ∷ alone (send 0 3) ∷ alone (receive 0 2 (make_id 4 3)) ∷ alone (send 4 3)
    ∷ alone (unary 4 2) ∷ alone (receive 4 1 (make_id 2 4)) ∷ alone (send 2 4) ∷ alone (unary 2 3) ∷ alone (receive 2 2 (make_id 1 2))
    ∷ alone (send 1 2) ∷ alone (receive 3 1 (make_id 2 1)) ∷ alone (send 2 1) ∷ alone (receive 1 1 (make_id 0 1)) ∷ alone (send 0 1) ∷ []

abbrev pub two_and_four : Clustering
two_and_four = at_first 5 (2 ∷ 4 ∷ [])

five_levels : (level_of two_and_four five (make_id 2 2) ≡ 2) × (level_of two_and_four five (make_id 4 1) ≡ 3) × (level_of two_and_four five (make_id 0 2) ≡ 3) × (level_of two_and_four five (make_id 2 5) ≡ 2) × (level_of two_and_four five (make_id 2 6) ≡ 1)
five_levels = (refl, refl, refl, refl, refl)

five_members : (members_of two_and_four five (make_id 2 2) ≡ 0 ∷ 1 ∷ 2 ∷ 3 ∷ []) × (members_of two_and_four five (make_id 4 1) ≡ 0 ∷ 1 ∷ 2 ∷ 3 ∷ 4 ∷ []) × (members_of two_and_four five (make_id 0 2) ≡ 0 ∷ 1 ∷ 2 ∷ 3 ∷ 4 ∷ []) × (members_of two_and_four five (make_id 2 5) ≡ 0 ∷ 1 ∷ 2 ∷ 3 ∷ []) × (members_of two_and_four five (make_id 2 6) ≡ 2 ∷ 3 ∷ [])
five_members = (refl, refl, refl, refl, refl)

-- Clusters of one trace merge with none, and an event that names one of its own trace has level 1.
abbrev pub own : List EventBlock
own = alone (receive 1 3 (make_id 1 2)) ∷ alone (send 1 2) ∷ alone (receive 1 1 (make_id 0 1)) ∷ alone (send 0 1) ∷ []

own_levels : (level_of (at_first 3 (1 ∷ [])) own (make_id 1 1) ≡ 2) × (level_of (at_first 3 (1 ∷ [])) own (make_id 1 3) ≡ 1)
own_levels = (refl, refl)

own_members : (members_of (at_first 3 (1 ∷ [])) own (make_id 1 1) ≡ 0 ∷ 1 ∷ 2 ∷ []) × (members_of (at_first 3 (1 ∷ [])) own (make_id 1 3) ≡ 1 ∷ [])
own_members = (refl, refl)

-- clusters that merge at the second communication between them
abbrev pub twice : List EventBlock
twice = alone (unary 1 3) ∷ alone (receive 1 2 (make_id 0 1)) ∷ alone (receive 1 1 (make_id 0 1)) ∷ alone (send 0 1) ∷ []

twice_levels : (level_of (at_second 3 (2 ∷ [])) twice (make_id 1 1) ≡ 2) × (level_of (at_second 3 (2 ∷ [])) twice (make_id 1 2) ≡ 1) × (level_of (at_second 3 (2 ∷ [])) twice (make_id 1 3) ≡ 1)
twice_levels = (refl, refl, refl)

twice_members : (members_of (at_second 3 (2 ∷ [])) twice (make_id 1 1) ≡ 0 ∷ 1 ∷ 2 ∷ []) × (members_of (at_second 3 (2 ∷ [])) twice (make_id 1 2) ≡ 0 ∷ 1 ∷ []) × (members_of (at_second 3 (2 ∷ [])) twice (make_id 1 3) ≡ 0 ∷ 1 ∷ [])
twice_members = (refl, refl, refl)

-- a pair, and a watch of one of the partners
abbrev watched : List EventBlock
watched = alone (receive 2 1 (make_id 0 1)) ∷ together (receive 0 1 (make_id 1 1)) (receive 1 1 (make_id 0 1)) ∷ []

watched_members : (members_of (at_first 3 (8 ∷ 32 ∷ [])) watched (make_id 0 1) ≡ 0 ∷ 1 ∷ []) × (members_of (at_first 3 (8 ∷ 32 ∷ [])) watched (make_id 1 1) ≡ 0 ∷ 1 ∷ []) × (members_of (at_first 3 (8 ∷ 32 ∷ [])) watched (make_id 2 1) ≡ 0 ∷ 1 ∷ 2 ∷ [])
watched_members = (refl, refl, refl)

-- two traces that watch each other, in clusters of up to eight, and of one
abbrev watching : List EventBlock
watching = alone (watch 0 2 (make_id 1 2)) ∷ alone (unary 1 2) ∷ alone (watch 1 1 (make_id 0 1)) ∷ alone (unary 0 1) ∷ []

watching_levels : (level_of (at_first 3 (8 ∷ 32 ∷ [])) watching (make_id 0 2) ≡ 1) × (level_of (at_first 3 (1 ∷ [])) watching (make_id 1 1) ≡ 2) × (level_of (at_first 3 (1 ∷ [])) watching (make_id 0 2) ≡ 2)
watching_levels = (refl, refl, refl)

watching_members : (members_of (at_first 3 (8 ∷ 32 ∷ [])) watching (make_id 0 2) ≡ 0 ∷ 1 ∷ []) × (members_of (at_first 3 (1 ∷ [])) watching (make_id 1 1) ≡ 0 ∷ 1 ∷ 2 ∷ []) × (members_of (at_first 3 (1 ∷ [])) watching (make_id 0 2) ≡ 0 ∷ 1 ∷ 2 ∷ [])
watching_members = (refl, refl, refl)

-- Of five traces 0 and 1 communicated, and then 2 and 3, so both are clusters at both levels. When 1 and 2 communicate
-- they merge at the second level alone, and then 2 and 4 at none.
abbrev two_pairs : List (ℕ × ℕ)
two_pairs = (2, 3) ∷ (0, 1) ∷ []

plan_levels : (shared_level two_and_four (partition two_and_four ((2, 1) ∷ two_pairs)) (2, 1) ≡ 2) × (shared_level two_and_four (partition two_and_four ((4, 2) ∷ (2, 1) ∷ two_pairs)) (4, 2) ≡ 3)
plan_levels = (refl, refl)

plan_merges : (merges_down_to two_and_four (partition two_and_four two_pairs) ((2, 1) ∷ two_pairs) 2 1 2 ≡ true) × (merges_down_to two_and_four (partition two_and_four two_pairs) ((2, 1) ∷ two_pairs) 2 1 1 ≡ false) × (merges_down_to two_and_four (partition two_and_four ((2, 1) ∷ two_pairs)) ((4, 2) ∷ (2, 1) ∷ two_pairs) 4 2 2 ≡ false)
plan_merges = (refl, refl, refl)

-- the bounds for sizes 2, for 2 and 4, and for 8 and 32
bounds : (bound_of (2 ∷ []) ≡ 3) × (bound_of (2 ∷ 4 ∷ []) ≡ 11) × (bound_of (8 ∷ 32 ∷ []) ≡ 265)
bounds = (refl, refl, refl)
