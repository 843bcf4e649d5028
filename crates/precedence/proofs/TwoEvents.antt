-- How two events of a legal journal lie to each other.
use Rattle.std.proofs.Common.{◌≡◌, ◌<◌, List, reverse, length, refl, sym, Bool, None, Some}
use Rattle.std.specs.Prelude.{Contains, IsTrue, ◌↔◌, slice_get}
use Rattle.std.specs.Option.{option_map}
use Rattle.std.proofs.lemmas.Option.{slice_get_within}
use Rattle.causal_base.specs.declared.entry.Entry.{Entry}
use Rattle.causal_base.specs.declared.event.Event.{Event}
use Rattle.causal_base.specs.declared.event_id.EventId.{EventId}
use Rattle.causal_base.specs.declared.related.Related.{Related}
use Rattle.causal_base.specs.declared.related.Related.TheVariants.{Before, After, Concurrent}
use Rattle.causal_base.specs.Types.{TypeTable}
use Rattle.causal_base.specs.Walks.{Reaches, IsBefore, AreRelated}
use Rattle.causal_base.specs.Asked.{SaysWhetherBefore}
use Rattle.causal_base.specs.Journal.{IsLegal, delivered_by}
use Rattle.causal_base.proofs.CallerLemmas.{came_fit, delivered_came, pairs_swapped}
use Rattle.precedence.specs.Relations.{SaysOfTwo, AreOneThing}

-- a delivered event has a type of the table
pub type_of_delivered : (types : TypeTable) (journal : List Entry) → IsLegal types journal → (e : Event) → Contains (delivered_by journal) e → e.type_no < length types.rows
type_of_delivered types journal legal e there =
    let fit = came_fit types (reverse journal) legal e (delivered_came types (reverse journal) legal e there) in
    elim (slice_get types.rows e.type_no) as (λ o. slice_get types.rows e.type_no ≡ o → option_map (λ row. row.kind) o ≡ Some fit.kind → e.type_no < length types.rows) [
      | None ↦ λ is kind. absurd cc
      | Some row ↦ λ is kind. slice_get_within types.rows e.type_no row is
    ] refl fit.is_of_kind

module _ (types : TypeTable) (events : List Event) (a b : EventId) where
  module _ (said : SaysOfTwo events a b (λ x y. AreOneThing types x y None)) where
    before_from_reach : Reaches types events said.first said.second → IsBefore types events said.first said.second
    before_from_reach reaches = record { reaches = reaches; different = said.is_so.0; apart = said.is_so.1 }

    after_from_reach : Reaches types events said.second said.first → IsBefore types events said.second said.first
    after_from_reach reaches = record {
      reaches = reaches;
      different = λ same. said.is_so.0 (sym same);
      apart = λ pairs. said.is_so.1 (pairs_swapped types said.second said.first pairs);
    }

    -- others are in order exactly where the one reaches the other
    pub before_by_reach : (answer : Bool) → (IsTrue answer ↔ Reaches types events said.first said.second) → SaysWhetherBefore types events a b answer
    before_by_reach answer reach = record {
      first = said.first;
      first_among = said.first_among;
      first_id = said.first_id;
      second = said.second;
      second_among = said.second_among;
      second_id = said.second_id;
      says = ((λ yes. before_from_reach (reach.0 yes)), (λ before. reach.1 before.reaches));
    }

    related_as : (related : Related) → AreRelated types events said.first said.second related → SaysOfTwo events a b (λ x y. AreRelated types events x y related)
    related_as related is = record {
      first = said.first;
      first_among = said.first_among;
      first_id = said.first_id;
      second = said.second;
      second_among = said.second_among;
      second_id = said.second_id;
      is_so = is;
    }

    pub related_before : Reaches types events said.first said.second → SaysOfTwo events a b (λ x y. AreRelated types events x y Before)
    related_before reaches = related_as Before (before_from_reach reaches)

    pub related_after : Reaches types events said.second said.first → SaysOfTwo events a b (λ x y. AreRelated types events x y After)
    related_after reaches = related_as After (after_from_reach reaches)

    pub related_not : (Reaches types events said.first said.second → ⊥) → (Reaches types events said.second said.first → ⊥) → SaysOfTwo events a b (λ x y. AreRelated types events x y Concurrent)
    related_not forth back = related_as Concurrent (record {
      different = said.is_so.0;
      apart = said.is_so.1;
      not_before = λ before. forth before.reaches;
      not_after = λ after. back after.reaches;
    })
