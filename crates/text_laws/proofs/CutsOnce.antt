-- A cut is told by its counts, and so is each end of them, and each move.
use Rattle.std.proofs.Common.{◌≡◌, ◌<◌, ℕ, List, length, sym, ◌∙◌, subst, arith}
use Rattle.std.proofs.lemmas.List.{ext_get_or}
use Rattle.std.proofs.lemmas.List.Elements.{All-get_or}
use Rattle.causal_base.specs.declared.event.Event.{Event}
use Rattle.causal_base.specs.Types.{TypeTable}
use Rattle.client_session.specs.Replies.{IsEmptyCut, IsWholeCut}
use Rattle.cut_scroll.specs.Cuts.{IsGreatestWithout, IsLeastWith, IsWithin}

-- two cuts that are each within the other are one
within_once : (cut other : List ℕ) → length cut ≡ length other → IsWithin cut other → IsWithin other cut → cut ≡ other
within_once cut other same forth back =
    ext_get_or 0 cut other same (λ i below. let least = forth i in let most = back i in omega (arith, least, most))

-- there is one empty cut
pub empty_once : (traces : ℕ) (cut other : List ℕ) → IsEmptyCut traces cut → IsEmptyCut traces other → cut ≡ other
empty_once traces cut other is also =
    let same = is.as_many ∙ sym also.as_many in
    ext_get_or 0 cut other same (λ i below.
    All-get_or (λ count. count ≡ 0) cut i 0 below is.none ∙ sym (All-get_or (λ count. count ≡ 0) other i 0 (subst (λ n. i < n) same below) also.none))

-- and one with all events
pub whole_once : (types : TypeTable) (events : List Event) (cut other : List ℕ) → IsWholeCut types events cut → IsWholeCut types events other → cut ≡ other
whole_once types events cut other is also =
    ext_get_or 0 cut other (is.as_many ∙ sym also.as_many) (λ i below.
    let on = subst (λ n. i < n) is.as_many below in
    is.all i on ∙ sym (also.all i on))

-- a cut moves forward to one cut
pub forward_once : (types : TypeTable) (events : List Event) (before : List ℕ) (e : Event) (cut other : List ℕ) → IsLeastWith types events before e cut → IsLeastWith types events before e other → cut ≡ other
forward_once types events before e cut other is also =
    within_once cut other (is.consistent.is_cut.traces ∙ sym also.consistent.is_cut.traces)
    (is.least other also.consistent also.all also.has) (also.least cut is.consistent is.all is.has)

-- and back to one
pub back_once : (types : TypeTable) (events : List Event) (before : List ℕ) (e : Event) (cut other : List ℕ) → IsGreatestWithout types events before e cut → IsGreatestWithout types events before e other → cut ≡ other
back_once types events before e cut other is also =
    within_once cut other (is.consistent.is_cut.traces ∙ sym also.consistent.is_cut.traces)
    (also.greatest cut is.consistent is.within is.without) (is.greatest other also.consistent also.within also.without)
