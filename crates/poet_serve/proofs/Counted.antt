-- Counts of events that are counted batch by batch.
use Rattle.std.proofs.Common.{◌≡◌, ◌+◌, ◌<◌, ◌≤◌, ℕ, zero, suc, List, [], ◌∷◌, ◌++◌, length, length-append, take, refl, sym, ◌∙◌, ap, subst, arith, append_assoc}
use Rattle.causal_base.specs.declared.event_id.EventId.{EventId}
use Rattle.event_book.specs.declared.report.FeedReport.{FeedReport}
use Rattle.poet_serve.specs.declared.limits.TheConstants.{MOST_CLASHES_NAMED}
use Rattle.poet_serve.specs.Tallies.{TallyState, both, tally_of}

take_none : {A : Type 0} (n : ℕ) → take {A = A} n [] ≡ []
take_none zero = refl
take_none (suc n) = refl

-- where fewer were taken than may be, one more is taken
pub take_next : {A : Type 0} (n : ℕ) (xs : List A) (x : A) → length (take n xs) < n → take n xs ++ x ∷ [] ≡ take n (xs ++ x ∷ [])
take_next zero xs x fewer = absurd (omega (arith, fewer))
take_next (suc n) [] x fewer = ap (λ rest. x ∷ rest) (sym (take_none n))
take_next (suc n) (y ∷ xs) x fewer = ap (λ rest. y ∷ rest) (take_next n xs x (omega (arith, fewer)))

-- and where as many were, no more
pub take_no_more : {A : Type 0} (n : ℕ) (xs : List A) (x : A) → n ≤ length (take n xs) → take n xs ≡ take n (xs ++ x ∷ [])
take_no_more zero xs x all = refl
take_no_more (suc n) [] x all = absurd (omega (arith, all))
take_no_more (suc n) (y ∷ xs) x all = ap (λ rest. y ∷ rest) (take_no_more n xs x (omega (arith, all)))

take_twice : {A : Type 0} (n : ℕ) (xs ys : List A) → take n (take n xs ++ ys) ≡ take n (xs ++ ys)
take_twice zero xs ys = refl
take_twice (suc n) [] ys = refl
take_twice (suc n) (x ∷ xs) ys = ap (λ rest. x ∷ rest) (take_twice n xs ys)

-- the counts of two lists of events
pub tally_more : (tally : TallyState) (counted report : FeedReport) → tally ≡ tally_of counted → (accepted repeats clashes : ℕ) (first : List EventId)
    → accepted ≡ tally.accepted + report.accepted → repeats ≡ tally.repeats + report.repeats → clashes ≡ tally.clashes + length report.clashes → first ≡ take MOST_CLASHES_NAMED (tally.first ++ report.clashes)
    → record { accepted = accepted; repeats = repeats; clashes = clashes; first = first } ≡ tally_of (both counted report)
tally_more tally counted report is accepted repeats clashes first a r c f =
    let a' : accepted ≡ counted.accepted + report.accepted = a ∙ ap (λ (t : TallyState). t.accepted + report.accepted) is in
    let r' : repeats ≡ counted.repeats + report.repeats = r ∙ ap (λ (t : TallyState). t.repeats + report.repeats) is in
    let c' : clashes ≡ length (counted.clashes ++ report.clashes) = c ∙ (ap (λ (t : TallyState). t.clashes + length report.clashes) is ∙ sym (length-append counted.clashes report.clashes)) in
    let f' : first ≡ take MOST_CLASHES_NAMED (counted.clashes ++ report.clashes) = f ∙ (ap (λ (t : TallyState). take MOST_CLASHES_NAMED (t.first ++ report.clashes)) is ∙ take_twice MOST_CLASHES_NAMED counted.clashes report.clashes) in
    rw a' (rw r' (rw c' (rw f' refl)))

-- the first ids with one more
pub named_next : (old clashes : List EventId) (k : ℕ) (x : EventId) (first : List EventId) → take (k + 1) clashes ≡ take k clashes ++ x ∷ [] → first ≡ take MOST_CLASHES_NAMED (old ++ take k clashes) → length first < MOST_CLASHES_NAMED → first ++ x ∷ [] ≡ take MOST_CLASHES_NAMED (old ++ take (k + 1) clashes)
named_next old clashes k x first more is fewer =
    ap (λ (l : List EventId). l ++ x ∷ []) is ∙ (take_next MOST_CLASHES_NAMED (old ++ take k clashes) x (subst (λ (l : List EventId). length l < MOST_CLASHES_NAMED) is fewer)
    ∙ ap (take MOST_CLASHES_NAMED) (append_assoc old (take k clashes) (x ∷ []) ∙ ap (λ (l : List EventId). old ++ l) (sym more)))

-- or without it, where there are as many
pub named_enough : (old clashes : List EventId) (k : ℕ) (x : EventId) (first : List EventId) → take (k + 1) clashes ≡ take k clashes ++ x ∷ [] → first ≡ take MOST_CLASHES_NAMED (old ++ take k clashes) → MOST_CLASHES_NAMED ≤ length first → first ≡ take MOST_CLASHES_NAMED (old ++ take (k + 1) clashes)
named_enough old clashes k x first more is all =
    is ∙ (take_no_more MOST_CLASHES_NAMED (old ++ take k clashes) x (subst (λ (l : List EventId). MOST_CLASHES_NAMED ≤ length l) is all)
    ∙ ap (take MOST_CLASHES_NAMED) (append_assoc old (take k clashes) (x ∷ []) ∙ ap (λ (l : List EventId). old ++ l) (sym more)))
