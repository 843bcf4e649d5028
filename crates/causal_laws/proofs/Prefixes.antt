use Rattle.std.proofs.Common.{◌≡◌, List, [], ◌∷◌, ◌++◌, refl, sym, ◌∙◌, ap, subst, append_assoc}
use Rattle.std.specs.Prelude.{Contains, reverse, option_to_list}
use Rattle.std.proofs.lemmas.List.{reverse-append}
use Rattle.causal_base.specs.declared.block.Block.TheVariants.{One, Two}
use Rattle.causal_base.specs.declared.entry.Entry.{Entry}
use Rattle.causal_base.specs.declared.entry.Entry.TheVariants.{Came, Gone, Pair, Ended}
use Rattle.causal_base.specs.declared.event.Event.{Event}
use Rattle.causal_base.specs.Types.{TypeTable}
use Rattle.causal_base.specs.History.{EventBlock, all_events, IsCausal}
use Rattle.causal_base.specs.Past.{came, delivery_of, deliveries, IsLegalPast}
use Rattle.causal_base.specs.Journal.{IsLegal, delivered_by}
use Rattle.causal_base.proofs.CallerLemmas.{Contains-there_events, causal}

-- what stands before newer entries of a legal past is a legal past
older_is_legal : (types : TypeTable) (newer past : List Entry) → IsLegalPast types (newer ++ past) → IsLegalPast types past
older_is_legal types [] past h = h
older_is_legal types (entry ∷ newer) past h = older_is_legal types newer past h.1

-- newer entries put deliveries before the older ones
deliveries-append : (newer past : List Entry) → (added : List EventBlock) × (deliveries (newer ++ past) ≡ added ++ deliveries past)
deliveries-append [] past = ([], refl)
deliveries-append (Came collector e ∷ newer) past = deliveries-append newer past
deliveries-append (Gone a ∷ newer) past =
    let rest = deliveries-append newer past in
    let first = option_to_list (delivery_of (came (newer ++ past)) (One a)) in
    (first ++ rest.0, ap (λ ds. first ++ ds) rest.1 ∙ sym (append_assoc first rest.0 (deliveries past)))
deliveries-append (Pair a b ∷ newer) past =
    let rest = deliveries-append newer past in
    let first = option_to_list (delivery_of (came (newer ++ past)) (Two a b)) in
    (first ++ rest.0, ap (λ ds. first ++ ds) rest.1 ∙ sym (append_assoc first rest.0 (deliveries past)))
deliveries-append (Ended collector ∷ newer) past = deliveries-append newer past

-- a member of the older events is a member after more deliveries
pub Contains-grows : (added ds : List EventBlock) (x : Event) → Contains (all_events ds) x → Contains (all_events (added ++ ds)) x
Contains-grows [] ds x h = h
Contains-grows (d ∷ added) ds x h = Contains-there_events d (all_events (added ++ ds)) x (Contains-grows added ds x h)

module _ (types : TypeTable) (journal more : List Entry) (legal : IsLegal types (journal ++ more)) where
  -- the longer journal, newest entry first
  pub newest_first : reverse (journal ++ more) ≡ reverse more ++ reverse journal
  newest_first = reverse-append journal more

  -- the same with the entries of the beginning behind
  pub legal_behind : IsLegalPast types (reverse more ++ reverse journal)
  legal_behind = subst (IsLegalPast types) newest_first legal

  -- the beginning of a legal journal is legal
  pub prefix_is_legal : IsLegal types journal
  prefix_is_legal = older_is_legal types (reverse more) (reverse journal) legal_behind

  -- the deliveries that the rest of the journal adds, newest first
  pub added : List EventBlock
  added = (deliveries-append (reverse more) (reverse journal)).0

  -- they stand before those of the beginning
  pub deliveries_with_added : deliveries (reverse (journal ++ more)) ≡ added ++ deliveries (reverse journal)
  unfolding added
  deliveries_with_added = ap deliveries newest_first ∙ (deliveries-append (reverse more) (reverse journal)).1

  -- all of them are causal
  pub causal_with_added : IsCausal types (added ++ deliveries (reverse journal))
  causal_with_added = subst (IsCausal types) deliveries_with_added (causal types (reverse (journal ++ more)) legal)

  -- the events that the whole journal delivered
  pub delivered_with_added : delivered_by (journal ++ more) ≡ all_events (added ++ deliveries (reverse journal))
  delivered_with_added = ap all_events deliveries_with_added
