-- Words are a plan in one way.
use Rattle.std.proofs.Common.{◌≡◌, ℕ, List, [], ◌∷◌, length, Option, refl, sym, ap, subst, ◌∙◌, arith}
use Rattle.std.specs.Prelude.{codes, decimal}
use Rattle.causal_base.specs.declared.event_id.EventId.{EventId}
use Rattle.causal_base.specs.declared.limits.TheConstants.{MOST_TRACES}
use Rattle.causal_base.specs.Fields.{IsIdInRange}
use Rattle.causal_base.proofs.CallerLemmas.{id_once, number_once, same_id}
use Rattle.command_line.specs.Items.{NameFiles}
use Rattle.command_line.specs.Options.{TakesAfter, TakesLevels}
use Rattle.command_line.specs.Plans.{AreAskWords, AreLoadWords, AreReplayWords, Asked, Ask, Replay, Load, IsPlan, ReplayAsked}
use Rattle.command_line.proofs.ItemLemmas.{files_once}
use Rattle.command_line.proofs.OptionLemmas.{levels_once, merging_once}

-- words of a replay, of which the first is read
module _ (words behind : List (List ℕ)) (asked : ReplayAsked) (begin : words ≡ codes "replay" ∷ behind) (are : AreReplayWords words asked) where
  -- have the levels behind it
  pub then_levels : TakesLevels behind are.middle asked.sizes
  then_levels =
      let both : codes "replay" ∷ are.behind ≡ codes "replay" ∷ behind = sym are.are ∙ begin in
      let same : are.behind ≡ behind = cc in
      subst (λ rest. TakesLevels rest are.middle asked.sizes) same are.levels

  -- then the number from which on clusters may merge
  pub then_after : (middle : List (List ℕ)) (sizes : List ℕ) → TakesLevels behind middle sizes → TakesAfter middle (asked.target ∷ are.files) asked.after
  then_after middle sizes levels =
      subst (λ rest. TakesAfter rest (asked.target ∷ are.files) asked.after) (levels_once behind are.middle middle asked.sizes sizes then_levels levels).0 are.merging

  -- then the target, and then files
  pub then_files : (middle named others : List (List ℕ)) (sizes target : List ℕ) (after : ℕ) → TakesLevels behind middle sizes → TakesAfter middle named after → named ≡ target ∷ others → (asked.target ≡ target) × NameFiles others asked.events asked.clients asked.closing
  then_files middle named others sizes target after levels merging parts =
      let both : asked.target ∷ are.files ≡ target ∷ others = (merging_once middle (asked.target ∷ are.files) named asked.after after (then_after middle sizes levels) merging).0 ∙ parts in
      let same : are.files ≡ others = cc in
      (cc, subst (λ rest. NameFiles rest asked.events asked.clients asked.closing) same are.named)

-- a replay of all these
abbrev pub make_replay : List ℕ → ℕ → List ℕ → List (List ℕ) → List (List ℕ) → Option (List ℕ) → ReplayAsked
make_replay sizes after target events clients closing = record { sizes = sizes; after = after; target = target; events = events; clients = clients; closing = closing }

pub replay_once : (words : List (List ℕ)) (asked other : ReplayAsked) → AreReplayWords words asked → AreReplayWords words other → asked ≡ other
replay_once words asked other are also =
    let levels : TakesLevels are.behind also.middle other.sizes = then_levels words are.behind other are.are also in
    let merging : TakesAfter are.middle (other.target ∷ also.files) other.after = then_after words are.behind other are.are also are.middle asked.sizes are.levels in
    let files : (other.target ≡ asked.target) × NameFiles are.files other.events other.clients other.closing = then_files words are.behind other are.are also are.middle (asked.target ∷ are.files) are.files asked.sizes asked.target asked.after are.levels are.merging refl in
    let named : (asked.events ≡ other.events) × (asked.clients ≡ other.clients) × (asked.closing ≡ other.closing) = files_once are.files asked.events other.events asked.clients other.clients asked.closing other.closing are.named files.1 in
    let one : asked.sizes ≡ other.sizes = (levels_once are.behind are.middle also.middle asked.sizes other.sizes are.levels levels).1 in
    let two : asked.after ≡ other.after = (merging_once are.middle (asked.target ∷ are.files) (other.target ∷ also.files) asked.after other.after are.merging merging).1 in
    let whole : make_replay asked.sizes asked.after asked.target asked.events asked.clients asked.closing ≡ make_replay other.sizes other.after other.target other.events other.clients other.closing = cc in
    whole

-- bytes are one id in range at most
id_in_range_once : (bytes : List ℕ) (id other : EventId) → IsIdInRange bytes MOST_TRACES id → IsIdInRange bytes MOST_TRACES other → id ≡ other
id_in_range_once bytes id other is also =
    let same = id_once bytes id.trace id.number other.trace other.number is.is_id also.is_id in same_id id other same.0 same.1

-- `ask` isn't `replay`
commands_differ : codes "ask" ≡ codes "replay" → ⊥
commands_differ same = let lengths : 3 ≡ 6 = ap (λ bytes. length bytes) same in omega (arith, lengths)

ask_no_replay : (words : List (List ℕ)) (name : List ℕ) (a b : EventId) (asked : ReplayAsked) → AreAskWords words name a b → AreReplayWords words asked → ⊥
ask_no_replay words name a b asked is also =
    let both : codes "ask" ∷ name ∷ is.first ∷ is.second ∷ [] ≡ codes "replay" ∷ also.behind = sym is.are ∙ also.are in
    let heads : codes "ask" ≡ codes "replay" = cc in
    commands_differ heads

ask_once : (words : List (List ℕ)) (name other : List ℕ) (a b c d : EventId) → AreAskWords words name a b → AreAskWords words other c d → Ask name a b ≡ Ask other c d
ask_once words name other a b c d is also =
    let both : codes "ask" ∷ name ∷ is.first ∷ is.second ∷ [] ≡ codes "ask" ∷ other ∷ also.first ∷ also.second ∷ [] = sym is.are ∙ also.are in
    let names : name ≡ other = cc in
    let first : is.first ≡ also.first = cc in
    let second : is.second ≡ also.second = cc in
    let a_is : a ≡ c = id_in_range_once also.first a c (subst (λ bytes. IsIdInRange bytes MOST_TRACES a) first is.a_is) also.a_is in
    let b_is : b ≡ d = id_in_range_once also.second b d (subst (λ bytes. IsIdInRange bytes MOST_TRACES b) second is.b_is) also.b_is in
    cc

-- `load` isn't `ask`, nor `replay`
load_no_ask : (words : List (List ℕ)) (name : List ℕ) (a b : EventId) (events : ℕ) → AreLoadWords words events → AreAskWords words name a b → ⊥
load_no_ask words name a b events is also =
    let both : codes "load" ∷ decimal events ∷ [] ≡ codes "ask" ∷ name ∷ also.first ∷ also.second ∷ [] = sym is.are ∙ also.are in
    let heads : codes "load" ≡ codes "ask" = cc in
    let lengths : 4 ≡ 3 = ap (λ bytes. length bytes) heads in omega (arith, lengths)

load_no_replay : (words : List (List ℕ)) (events : ℕ) (asked : ReplayAsked) → AreLoadWords words events → AreReplayWords words asked → ⊥
load_no_replay words events asked is also =
    let both : codes "load" ∷ decimal events ∷ [] ≡ codes "replay" ∷ also.behind = sym is.are ∙ also.are in
    let heads : codes "load" ≡ codes "replay" = cc in
    let lengths : 4 ≡ 6 = ap (λ bytes. length bytes) heads in omega (arith, lengths)

-- a number stands in decimal in one way
load_once : (words : List (List ℕ)) (events others : ℕ) → AreLoadWords words events → AreLoadWords words others → events ≡ others
load_once words events others is also =
    let both : codes "load" ∷ decimal events ∷ [] ≡ codes "load" ∷ decimal others ∷ [] = sym is.are ∙ also.are in
    let same : decimal events ≡ decimal others = cc in
    number_once (decimal others) events others (record { small = omega (arith, is.most); spelled = sym same }) (record { small = omega (arith, also.most); spelled = refl })

pub plan_once : (words : List (List ℕ)) (asked other : Asked) → IsPlan words asked → IsPlan words other → asked ≡ other
plan_once words (Ask name a b) (Ask other c d) is also = ask_once words name other a b c d is also
plan_once words (Ask name a b) (Replay other) is also = absurd (ask_no_replay words name a b other is also)
plan_once words (Replay asked) (Ask other c d) is also = absurd (ask_no_replay words other c d asked also is)
plan_once words (Replay asked) (Replay other) is also = ap (λ replay. Replay replay) (replay_once words asked other is also)
plan_once words (Load events) (Load others) is also = ap (λ count. Load count) (load_once words events others is also)
plan_once words (Load events) (Ask other c d) is also = absurd (load_no_ask words other c d events is also)
plan_once words (Load events) (Replay other) is also = absurd (load_no_replay words events other is also)
plan_once words (Ask name a b) (Load others) is also = absurd (load_no_ask words name a b others also is)
plan_once words (Replay asked) (Load others) is also = absurd (load_no_replay words others asked also is)
