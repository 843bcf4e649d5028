-- Numbers that are raised to the parts of a stamp, member by member.
use Rattle.std.proofs.Common.{◌≡◌, ◌≤◌, ◌<◌, ◌+◌, ℕ, List, length, set, ◌⊎◌, inl, inr, refl, sym, ◌∙◌, ap, subst, arith, Some}
use Rattle.std.specs.Prelude.{max, slice_get, slice_index}
use Rattle.std.specs.Option.{unwrap_or}
use Rattle.std.proofs.lemmas.Bool.{cases_lt, cases_order}
use Rattle.std.proofs.lemmas.List.{get_or_past, get_or-set_same, get_or-set_other, length-set}
use Rattle.causal_base.specs.Stamps.{ClusterTimestamp}
use Rattle.projected_stamp.specs.Parts.{IsPart}
use Rattle.precedence.specs.Walking.{RaisesParts}

-- They were raised to the parts of the members before a place.
pub record RaisesBefore (stamp : ClusterTimestamp) (place : ℕ) (before after : List ℕ) : Type 0 where
  pub grows : (trace : ℕ) → slice_index before trace ≤ slice_index after trace
  pub raised : (trace n : ℕ) → trace < length before → (part : IsPart stamp trace n) → part.at < place → n ≤ slice_index after trace
  pub no_other : (trace : ℕ) → (slice_index after trace ≡ slice_index before trace) ⊎ IsPart stamp trace (slice_index after trace)

pub raises_none : (stamp : ClusterTimestamp) (numbers : List ℕ) → RaisesBefore stamp 0 numbers numbers
raises_none stamp numbers = record {
  grows = λ trace. omega arith;
  raised = λ trace n within part below. absurd (omega (arith, below));
  no_other = λ trace. inl refl;
}

pub raises_all : (stamp : ClusterTimestamp) (place : ℕ) (before after : List ℕ) → length stamp.members ≤ place → ((trace n : ℕ) → (part : IsPart stamp trace n) → part.at < length stamp.members) → RaisesBefore stamp place before after → RaisesParts stamp before after
raises_all stamp place before after past inside raises = record {
  grows = raises.grows;
  raised = λ trace n within part. raises.raised trace n within part (let below = inside trace n part in omega (arith, below, past));
  no_other = raises.no_other;
}

-- the numbers after one was raised: as before, or this one where it is no less
raised_cases : (numbers : List ℕ) (trace n other : ℕ) → (slice_index (set numbers trace (max (slice_index numbers trace) n)) other ≡ slice_index numbers other)
    ⊎ ((other ≡ trace) × (trace < length numbers) × (slice_index numbers other ≤ n) × (slice_index (set numbers trace (max (slice_index numbers trace) n)) other ≡ n))
raised_cases numbers trace n other = elim (cases_order other trace) [
  | inr (inl below) ↦ inl (get_or-set_other numbers trace other higher 0 (λ same. omega (arith, below, same)))
  | inr (inr above) ↦ inl (get_or-set_other numbers trace other higher 0 (λ same. omega (arith, above, same)))
  | inl same ↦ elim (cases_lt trace (length numbers)) [
    | inr past ↦
        let count = length-set numbers trace higher in
        inl (get_or_past (set numbers trace higher) other 0 (omega (arith, count, past, same)) ∙ sym (get_or_past numbers other 0 (omega (arith, past, same))))
    | inl within ↦
        let now : slice_index (set numbers trace higher) other ≡ higher = ap (λ k. slice_index (set numbers trace higher) k) same ∙ get_or-set_same numbers trace higher 0 within in
        let was = ap (λ k. slice_index numbers k) same in
        elim (cases_lt n (slice_index numbers trace)) [
          | inl less ↦ (let stays : higher ≡ slice_index numbers trace = omega (arith, less) in inl (now ∙ stays ∙ sym was))
          | inr most ↦ (let rises : higher ≡ n = omega (arith, most) in inr (same, within, omega (arith, most, was), now ∙ rises))
        ]
  ]
]
  where
    higher : ℕ
    higher = max (slice_index numbers trace) n

module _ (stamp : ClusterTimestamp) (place : ℕ) (start before after : List ℕ) (trace n : ℕ) (member : slice_get stamp.members place ≡ Some trace) (number : slice_get stamp.clock place ≡ Some n) (is : after ≡ set before trace (max (slice_index before trace) n)) (as_long : length before ≡ length start) (so_far : RaisesBefore stamp place start before) where
  cases : (other : ℕ) → (slice_index after other ≡ slice_index before other) ⊎ ((other ≡ trace) × (trace < length before) × (slice_index before other ≤ n) × (slice_index after other ≡ n))
  cases other = subst (λ (l : List ℕ). (slice_index l other ≡ slice_index before other) ⊎ ((other ≡ trace) × (trace < length before) × (slice_index before other ≤ n) × (slice_index l other ≡ n))) (sym is) (raised_cases before trace n other)

  grows : (other : ℕ) → slice_index before other ≤ slice_index after other
  grows other = elim (cases other) [
    | inl same ↦ omega (arith, same)
    | inr rose ↦ (let low = rose.2 in let high = rose.3 in omega (arith, low, high))
  ]

  -- here it is no less than the part
  at_least : (other m : ℕ) → other < length start → slice_get stamp.members place ≡ Some other → slice_get stamp.clock place ≡ Some m → m ≤ slice_index after other
  at_least other m within its part =
      let same : other ≡ trace = ap (λ o. unwrap_or o other) (sym its ∙ member) in
      let also : m ≡ n = ap (λ o. unwrap_or o m) (sym part ∙ number) in
      let now = ap (λ (l : List ℕ). slice_index l trace) is ∙ get_or-set_same before trace (max (slice_index before trace) n) 0 (omega (arith, within, same, as_long)) in
      let at = ap (λ k. slice_index after k) same in
      omega (arith, now, at, also)

  pub raises_more : RaisesBefore stamp (place + 1) start after
  raises_more = record {
    grows = λ other. let first = so_far.grows other in let then = grows other in omega (arith, first, then);
    raised = λ other m within part below. elim (cases_lt part.at place) [
      | inl before_it ↦ (let first = so_far.raised other m within part before_it in let then = grows other in omega (arith, first, then))
      | inr last ↦
          let same : part.at ≡ place = omega (arith, last, below) in
          at_least other m within (subst (λ k. slice_get stamp.members k ≡ Some other) same part.member) (subst (λ k. slice_get stamp.clock k ≡ Some m) same part.number_is)
    ];
    no_other = λ other. elim (cases other) [
      | inl same ↦ elim (so_far.no_other other) [
        | inl first ↦ inl (same ∙ first)
        | inr part ↦ inr (subst (IsPart stamp other) (sym same) part)
      ]
      | inr rose ↦ inr (subst (IsPart stamp other) (sym rose.3) (record { at = place; member = member ∙ ap (λ k. Some k) (sym rose.0); number_is = number }))
    ];
  }
