-- What one more byte makes of the text that a reader has read.
use Rattle.std.proofs.Common.{◌≡◌, ◌≢◌, ◌<◌, ◌≤◌, ◌+◌, ◌⊎◌, ℕ, inl, inr, Bool, true, false, cond, List, [], ◌∷◌, ◌++◌, length, Option, Some, None, refl, sym, ◌∙◌, ap, subst, arith, append_assoc, append-nil, length-append}
use Rattle.std.specs.Prelude.{take, codes, ◌==◌, MatchOption}
use Rattle.std.specs.List.{AllByRecursion}
use Rattle.std.specs.Option.{is_some}
use Rattle.std.proofs.Math.Seq.{take-append_seam}
use Rattle.std.proofs.lemmas.Bool.{cases_eq, cases_lt}
use Rattle.std.proofs.lemmas.List.{take_all, take-append-le, flat_map_more}
use Rattle.std.proofs.lemmas.List.Elements.{Contains-append_cases}
use Rattle.causal_base.specs.declared.event.Event.{Event}
use Rattle.causal_base.specs.Types.{TypeTable}
use Rattle.causal_base.proofs.CallerLemmas.{Contains-nil, Contains-one}
use Rattle.raw_reader.specs.declared.cause.LineCause.{LineCause}
use Rattle.raw_reader.specs.declared.cause.LineCause.TheVariants.{TooLarge, LongLine, Unended, Oom}
use Rattle.raw_reader.specs.declared.cause.LineError.{LineError}
use Rattle.raw_reader.specs.Causes.{IsCause}
use Rattle.raw_reader.specs.EventParts.{IsOneLine}
use Rattle.raw_reader.specs.declared.limits.TheConstants.{MOST_IN_BATCH, MOST_INPUT, MOST_LINE}
use Rattle.raw_reader.specs.Texts.{TextLine, stop, says, line_bytes, IsFitLine, text_of_lines, Batches, piece_of, closed_off, batches_with, batches_from, IsTailCause, IsKnownAfter, IsOpenText, BeginsWithBatches, IsGoodText, HasFault}
use Rattle.raw_reader.specs.ReaderState.{ReaderState, ReadsOn, RanOut, MetFault, HasRead, HasReadToEnd}

-- bytes that stand within the most
visible : (bytes : List ℕ) → length bytes ≤ MOST_INPUT → take MOST_INPUT bytes ≡ bytes
visible bytes within = take_all MOST_INPUT bytes within

one_more : (bytes : List ℕ) (byte : ℕ) → length (bytes ++ byte ∷ []) ≡ length bytes + 1
one_more bytes byte = length-append bytes (byte ∷ [])

-- bytes without a line feed stay so with a byte that is none
one_line_more : (bytes : List ℕ) (byte : ℕ) → IsOneLine bytes → byte ≢ 10 → IsOneLine (bytes ++ byte ∷ [])
one_line_more bytes byte one_line other has = elim (Contains-append_cases bytes (byte ∷ []) 10 has) [ inl inside ↦ one_line inside | inr last ↦ other (Contains-one byte 10 last) ]

module _ (types : TypeTable) where
  -- the text of one more line
  text_more : (lines : List TextLine) (line : TextLine) → text_of_lines types (lines ++ line ∷ []) ≡ text_of_lines types lines ++ (line_bytes types line ++ 10 ∷ [])
  text_more lines line = sym (flat_map_more (λ l. line_bytes types l ++ 10 ∷ []) [] lines line)

  -- a fault that is known stays where a byte follows
  cause_stays : (size : ℕ) (tail : List ℕ) (byte : ℕ) (cause : LineCause) → size < MOST_INPUT → length tail ≤ size → IsTailCause types size tail cause → IsTailCause types (size + 1) (tail ++ byte ∷ []) cause
  cause_stays size tail byte cause room few known = elim known [
    | inl ended ↦ inl (ended.0, ended.1 ++ byte ∷ [], ap (λ t. t ++ byte ∷ []) ended.2 ∙ append_assoc ended.0 (10 ∷ ended.1) (byte ∷ []), ended.3, ended.4)
    | inr still ↦ elim still.1 [
      | inr large ↦ absurd (omega (arith, large.1, room))
      | inl long ↦ elim (cases_eq byte 10) [
        | inl feed ↦ inl (tail, [], ap (λ b. tail ++ b ∷ []) feed, still.0, inl (long.0, long.1))
        | inr other ↦ inr (one_line_more tail byte still.0 other, inl ((let size = one_more tail byte in let longer = long.0 in omega (arith, size, longer)), long.1))
      ]
    ]
  ]

  size_grows : (few more : ℕ) (tail : List ℕ) (cause : LineCause) → few ≤ more → IsTailCause types few tail cause → IsTailCause types more tail cause
  size_grows few more tail cause grows known = elim known [
    | inl ended ↦ inl ended
    | inr still ↦ inr (still.0, elim still.1 [ inl long ↦ inl long | inr large ↦ inr (large.0, (let above = large.1 in omega (arith, above, grows)), large.2) ])
  ]

  pub known_stays : (fed : List ℕ) (byte : ℕ) (lines : List TextLine) (error : LineError) → IsKnownAfter types fed lines error → IsKnownAfter types (fed ++ byte ∷ []) lines error
  known_stays fed byte lines error known = elim (cases_lt (length fed) MOST_INPUT) [
    | inl room ↦
        let whole : fed ≡ text_of_lines types lines ++ known.tail = sym (visible fed (omega (arith, room))) ∙ known.within in
        let size = one_more fed byte in
        let sizes = ap length whole ∙ length-append (text_of_lines types lines) known.tail in
        record {
          fit = known.fit;
          tail = known.tail ++ byte ∷ [];
          within = visible (fed ++ byte ∷ []) (omega (arith, size, room)) ∙ (ap (λ b. b ++ byte ∷ []) whole ∙ append_assoc (text_of_lines types lines) known.tail (byte ∷ []));
          line_is = known.line_is;
          cause = subst (λ n. IsTailCause types n (known.tail ++ byte ∷ []) error.cause) (sym size) (cause_stays (length fed) known.tail byte error.cause room (omega (arith, sizes)) known.cause);
        }
    | inr past ↦
        let size = one_more fed byte in
        record {
          fit = known.fit;
          tail = known.tail;
          within = take-append-le MOST_INPUT fed (byte ∷ []) (omega (arith, past)) ∙ known.within;
          line_is = known.line_is;
          cause = size_grows (length fed) (length (fed ++ byte ∷ [])) known.tail error.cause (omega (arith, size)) known.cause;
        }
  ]

-- the batches of one more line
batches_more : (start : Batches) (lines : List TextLine) (line : TextLine) → batches_from start (lines ++ line ∷ []) ≡ batches_with (batches_from start lines) line
batches_more start [] line = refl
batches_more start (first ∷ lines) line = batches_more (batches_with start first) lines line

-- batches before others stay before them
abbrev behind : List (List Event) → Batches → Batches
behind taken batches = record { closed = taken ++ batches.closed; begun = batches.begun }

closed_behind : (taken : List (List Event)) (batches : Batches) → closed_off (behind taken batches) ≡ behind taken (closed_off batches)
closed_behind taken batches = ap (λ c. record { closed = c; begun = [] }) (append_assoc taken batches.closed (piece_of batches.begun))

by_length : (taken : List (List Event)) (more : Batches) (full : Bool) → cond full (closed_off (behind taken more)) (behind taken more) ≡ behind taken (cond full (closed_off more) more)
by_length taken more true = closed_behind taken more
by_length taken more false = refl

with_behind : (taken : List (List Event)) (batches : Batches) (line : TextLine) → batches_with (behind taken batches) line ≡ behind taken (batches_with batches line)
with_behind taken batches stop = closed_behind taken batches
with_behind taken batches (says e) = by_length taken (record { closed = batches.closed; begun = batches.begun ++ e ∷ [] }) (length (batches.begun ++ e ∷ []) == MOST_IN_BATCH)

-- batches that are closed stay so, whatever follows
pub closed_stays : (types : TypeTable) (fed more : List ℕ) (batches : List (List Event)) → BeginsWithBatches types fed batches → BeginsWithBatches types (fed ++ more) batches
closed_stays types fed more batches has = record {
  lines = has.lines;
  fit = has.fit;
  rest = has.rest ++ more;
  whole = ap (λ b. b ++ more) has.whole ∙ append_assoc (text_of_lines types has.lines) has.rest more;
  within = has.within;
  closed = has.closed;
}

-- what good lines closed before memory ran out is closed by the text
pub out_begins : (reader : ReaderState) (fed : List ℕ) (taken : List (List Event)) (error : LineError) → RanOut reader fed taken error → BeginsWithBatches reader.types fed (taken ++ reader.waiting)
out_begins reader fed taken error out = record { lines = out.lines; fit = out.fit; rest = out.rest; whole = out.whole; within = out.within; closed = out.closed }

-- what a reader has read where a byte follows a refusal
pub refused_stays : (reader : ReaderState) (fed : List ℕ) (taken : List (List Event)) (byte : ℕ) (error : LineError) → RanOut reader fed taken error ⊎ MetFault reader fed taken error → RanOut reader (fed ++ byte ∷ []) taken error ⊎ MetFault reader (fed ++ byte ∷ []) taken error
refused_stays reader fed taken byte error refused = elim refused [
  | inl out ↦ inl (record {
    lines = out.lines;
    fit = out.fit;
    rest = out.rest ++ byte ∷ [];
    whole = ap (λ b. b ++ byte ∷ []) out.whole ∙ append_assoc (text_of_lines reader.types out.lines) out.rest (byte ∷ []);
    within = out.within;
    closed = out.closed;
    line_is = out.line_is;
    cause = out.cause;
  })
  | inr met ↦ inr (record { lines = met.lines; fault = known_stays reader.types fed byte met.lines error met.fault; batches = met.batches })
]

-- a reader that had kept the whole line, of which these bytes more were read
abbrev pub with_line : ReaderState → List ℕ → List ℕ → ReaderState
with_line reader line more = record reader { size = reader.size + length more; tail = line }

module _ (reader : ReaderState) (fed : List ℕ) (taken : List (List Event)) (on : ReadsOn reader fed taken) where
  -- one byte too many
  pub too_large : (byte : ℕ) → reader.size ≡ MOST_INPUT → IsKnownAfter reader.types (fed ++ byte ∷ []) on.lines (record { line = reader.lines + 1; cause = TooLarge })
  too_large byte full =
      let all : length fed ≡ MOST_INPUT = sym on.size_is ∙ full in
      let size = one_more fed byte in
      record {
        fit = on.fit;
        tail = reader.tail;
        within = subst (λ n. take n (fed ++ byte ∷ []) ≡ fed) all (take-append_seam fed (byte ∷ [])) ∙ on.fed_is;
        line_is = ap (λ n. n + 1) on.count_is;
        cause = inr (on.one_line, inr (on.short, omega (arith, all, size), refl));
      }

  -- the text with one more byte
  whole : (byte : ℕ) → fed ++ byte ∷ [] ≡ text_of_lines reader.types on.lines ++ (reader.tail ++ byte ∷ [])
  whole byte = ap (λ b. b ++ byte ∷ []) on.fed_is ∙ append_assoc (text_of_lines reader.types on.lines) reader.tail (byte ∷ [])

  room_for : (byte : ℕ) → reader.size < MOST_INPUT → length (fed ++ byte ∷ []) ≤ MOST_INPUT
  room_for byte room = let size = one_more fed byte in let same = on.size_is in omega (arith, size, same, room)

  known_now : (byte : ℕ) (cause : LineCause) → reader.size < MOST_INPUT → IsTailCause reader.types (length (fed ++ byte ∷ [])) (reader.tail ++ byte ∷ []) cause → IsKnownAfter reader.types (fed ++ byte ∷ []) on.lines (record { line = reader.lines + 1; cause = cause })
  known_now byte cause room tail = record {
    fit = on.fit;
    tail = reader.tail ++ byte ∷ [];
    within = visible (fed ++ byte ∷ []) (room_for byte room) ∙ whole byte;
    line_is = ap (λ n. n + 1) on.count_is;
    cause = tail;
  }

  -- a line that is too long
  pub too_long : (byte : ℕ) → reader.size < MOST_INPUT → byte ≢ 10 → length reader.tail ≡ MOST_LINE → IsKnownAfter reader.types (fed ++ byte ∷ []) on.lines (record { line = reader.lines + 1; cause = LongLine })
  too_long byte room other full = known_now byte LongLine room
      (inr (one_line_more reader.tail byte on.one_line other, inl ((let size = one_more reader.tail byte in omega (arith, size, full)), refl)))

  -- a line that ended and has a cause
  pub bad_line : (cause : LineCause) → reader.size < MOST_INPUT → reader.tail ≢ codes "." → IsCause reader.types reader.tail cause → IsKnownAfter reader.types (fed ++ 10 ∷ []) on.lines (record { line = reader.lines + 1; cause = cause })
  bad_line cause room other wrong = known_now 10 cause room (inl (reader.tail, [], refl, on.one_line, inr (on.short, other, wrong)))

  -- a refusal at a fault, with the same batches
  pub met : (later : ReaderState) (bytes : List ℕ) (error : LineError) → later.types ≡ reader.types → later.waiting ≡ reader.waiting → IsKnownAfter reader.types bytes on.lines error → MetFault later bytes taken error
  met later bytes error types waiting fault = record {
    lines = on.lines;
    fault = subst (λ t. IsKnownAfter t bytes on.lines error) (sym types) fault;
    batches = ap (λ (b : Batches). b.closed) on.batches ∙ ap (λ w. taken ++ w) (sym waiting);
  }

  -- a byte of the line that is open
  pub pushed : (later : ReaderState) (byte : ℕ) → reader.size < MOST_INPUT → byte ≢ 10 → length reader.tail < MOST_LINE
      → later.types ≡ reader.types → later.size ≡ reader.size + 1 → later.lines ≡ reader.lines → later.tail ≡ reader.tail ++ byte ∷ [] → later.begun ≡ reader.begun → later.waiting ≡ reader.waiting → ReadsOn later (fed ++ byte ∷ []) taken
  pushed later byte room other short types size lines tail begun waiting = record {
    lines = on.lines;
    fit = subst (λ t. AllByRecursion (IsFitLine t) on.lines) (sym types) on.fit;
    fed_is = whole byte ∙ (ap (λ b. text_of_lines reader.types on.lines ++ b) (sym tail) ∙ ap (λ t. text_of_lines t on.lines ++ later.tail) (sym types));
    one_line = subst IsOneLine (sym tail) (one_line_more reader.tail byte on.one_line other);
    short = (let length_is = ap length tail ∙ one_more reader.tail byte in omega (arith, length_is, short));
    size_is = size ∙ (ap (λ n. n + 1) on.size_is ∙ sym (one_more fed byte));
    within = room_for byte room;
    count_is = lines ∙ on.count_is;
    batches = on.batches ∙ (ap (λ w. record { closed = taken ++ w; begun = reader.begun }) (sym waiting) ∙ ap (λ b. record { closed = taken ++ later.waiting; begun = b }) (sym begun));
  }

  -- the rest of a line together
  pub line_on : (line more : List ℕ) → reader.tail ++ more ≡ line → IsOneLine line → length line ≤ MOST_LINE → reader.size + length more ≤ MOST_INPUT → ReadsOn (with_line reader line more) (fed ++ more) taken
  line_on line more is one_line short room = let size = length-append fed more in let same = on.size_is in record {
    lines = on.lines;
    fit = on.fit;
    fed_is = ap (λ b. b ++ more) on.fed_is ∙ (append_assoc (text_of_lines reader.types on.lines) reader.tail more ∙ ap (λ l. text_of_lines reader.types on.lines ++ l) is);
    one_line = one_line;
    short = short;
    size_is = ap (λ n. n + length more) on.size_is ∙ sym size;
    within = omega (arith, size, same, room);
    count_is = on.count_is;
    batches = on.batches;
  }

  -- a good line that ended
  pub line_ended : (later : ReaderState) (line : TextLine) → reader.size < MOST_INPUT → IsFitLine reader.types line → reader.tail ≡ line_bytes reader.types line
      → later.types ≡ reader.types → later.size ≡ reader.size + 1 → later.lines ≡ reader.lines + 1 → later.tail ≡ []
      → record { closed = later.waiting; begun = later.begun } ≡ batches_with (record { closed = reader.waiting; begun = reader.begun }) line → ReadsOn later (fed ++ 10 ∷ []) taken
  line_ended later line room fit is types size lines tail batches = record {
    lines = on.lines ++ line ∷ [];
    fit = subst (λ t. AllByRecursion (IsFitLine t) (on.lines ++ line ∷ [])) (sym types) (fit_more on.lines on.fit);
    fed_is = whole 10 ∙ (ap (λ b. text_of_lines reader.types on.lines ++ (b ++ 10 ∷ [])) is ∙ (sym (text_more reader.types on.lines line)
        ∙ (sym (append-nil (text_of_lines reader.types (on.lines ++ line ∷ []))) ∙ (ap (λ b. text_of_lines reader.types (on.lines ++ line ∷ []) ++ b) (sym tail) ∙ ap (λ t. text_of_lines t (on.lines ++ line ∷ []) ++ later.tail) (sym types)))));
    one_line = subst IsOneLine (sym tail) (λ has. absurd (Contains-nil 10 has));
    short = (let length_is = ap length tail in omega (arith, length_is));
    size_is = size ∙ (ap (λ n. n + 1) on.size_is ∙ sym (one_more fed 10));
    within = room_for 10 room;
    count_is = lines ∙ (ap (λ n. n + 1) on.count_is ∙ sym (length-append on.lines (line ∷ [])));
    batches = batches_more (record { closed = []; begun = [] }) on.lines line
        ∙ (ap (λ b. batches_with b line) on.batches
        ∙ (with_behind taken (record { closed = reader.waiting; begun = reader.begun }) line
        ∙ ap (λ b. behind taken b) (sym batches)));
  }
    where
      fit_more : (lines : List TextLine) → AllByRecursion (IsFitLine reader.types) lines → AllByRecursion (IsFitLine reader.types) (lines ++ line ∷ [])
      fit_more [] fits = (fit, tt)
      fit_more (first ∷ lines) fits = (fits.0, fit_more lines fits.1)

  -- the bytes are an open text
  pub is_open : IsOpenText reader.types fed (taken ++ reader.waiting)
  is_open = record {
    lines = on.lines;
    fit = on.fit;
    tail = reader.tail;
    whole = on.fed_is;
    one_line = on.one_line;
    short = on.short;
    within = on.within;
    closed = ap (λ (b : Batches). b.closed) on.batches;
  }

  lines_within : length (text_of_lines reader.types on.lines) ≤ MOST_INPUT
  lines_within = let sizes = ap length on.fed_is ∙ length-append (text_of_lines reader.types on.lines) reader.tail in let within = on.within in omega (arith, sizes, within)

  -- the batches that its lines closed
  pub has_closed : BeginsWithBatches reader.types fed (taken ++ reader.waiting)
  has_closed = record { lines = on.lines; fit = on.fit; rest = reader.tail; whole = on.fed_is; within = lines_within; closed = ap (λ (b : Batches). b.closed) on.batches }

  -- no memory for what the text goes on with
  pub ran_out : (later : ReaderState) (more : List ℕ) (error : LineError) → later.types ≡ reader.types → later.waiting ≡ reader.waiting → error.line ≡ reader.lines + 1 → error.cause ≡ Oom → RanOut later (fed ++ more) taken error
  ran_out later more error types waiting line cause = record {
    lines = on.lines;
    fit = subst (λ t. AllByRecursion (IsFitLine t) on.lines) (sym types) on.fit;
    rest = reader.tail ++ more;
    whole = ap (λ b. b ++ more) on.fed_is ∙ (append_assoc (text_of_lines reader.types on.lines) reader.tail more ∙ ap (λ t. text_of_lines t on.lines ++ (reader.tail ++ more)) (sym types));
    within = subst (λ t. length (text_of_lines t on.lines) ≤ MOST_INPUT) (sym types) lines_within;
    closed = ap (λ (b : Batches). b.closed) on.batches ∙ ap (λ w. taken ++ w) (sym waiting);
    line_is = line ∙ ap (λ n. n + 1) on.count_is;
    cause = cause;
  }

-- a reader that goes on, and one that was refused
pub goes_on : (reader : ReaderState) (fed : List ℕ) (taken : List (List Event)) → reader.refusal ≡ None → HasRead reader fed taken → ReadsOn reader fed taken
goes_on reader fed taken none stands = subst (λ o. MatchOption o (ReadsOn reader fed taken) (λ error. RanOut reader fed taken error ⊎ MetFault reader fed taken error)) none stands

pub going : (reader : ReaderState) (fed : List ℕ) (taken : List (List Event)) → reader.refusal ≡ None → ReadsOn reader fed taken → HasRead reader fed taken
going reader fed taken none on = subst (λ o. MatchOption o (ReadsOn reader fed taken) (λ error. RanOut reader fed taken error ⊎ MetFault reader fed taken error)) (sym none) on

pub refused : (reader : ReaderState) (fed : List ℕ) (taken : List (List Event)) (error : LineError) → reader.refusal ≡ Some error → RanOut reader fed taken error ⊎ MetFault reader fed taken error → HasRead reader fed taken
refused reader fed taken error some why = subst (λ o. MatchOption o (ReadsOn reader fed taken) (λ e. RanOut reader fed taken e ⊎ MetFault reader fed taken e)) (sym some) why

-- a refusal stays
pub still_refused : (reader : ReaderState) (fed : List ℕ) (taken : List (List Event)) (byte : ℕ) (refusal : Option LineError) → is_some refusal ≡ true
    → MatchOption refusal (ReadsOn reader fed taken) (λ error. RanOut reader fed taken error ⊎ MetFault reader fed taken error)
    → MatchOption refusal (ReadsOn reader (fed ++ byte ∷ []) taken) (λ error. RanOut reader (fed ++ byte ∷ []) taken error ⊎ MetFault reader (fed ++ byte ∷ []) taken error)
still_refused reader fed taken byte None some stands = cc
still_refused reader fed taken byte (Some error) some stands = refused_stays reader fed taken byte error stands

pub none_from : (refusal : Option LineError) → is_some refusal ≡ false → refusal ≡ None
none_from None is = refl
none_from (Some error) is = cc

-- a reader that refuses a fault
pub refused_at : (reader : ReaderState) (fed bytes : List ℕ) (taken : List (List Event)) (on : ReadsOn reader fed taken) (cause : LineCause) (later : ReaderState)
    → later ≡ record reader { begun = []; refusal = Some (record { line = reader.lines + 1; cause = cause }) }
    → IsKnownAfter reader.types bytes on.lines (record { line = reader.lines + 1; cause = cause }) → HasRead later bytes taken
refused_at reader fed bytes taken on cause later is known =
    refused later bytes taken (record { line = reader.lines + 1; cause = cause }) (ap (λ (r : ReaderState). r.refusal) is)
    (inr (met reader fed taken on later bytes (record { line = reader.lines + 1; cause = cause }) (ap (λ (r : ReaderState). r.types) is) (ap (λ (r : ReaderState). r.waiting) is) known))

-- and one that refuses for want of memory
pub out_at : (reader : ReaderState) (fed : List ℕ) (taken : List (List Event)) (on : ReadsOn reader fed taken) (byte : ℕ) (later : ReaderState) (error : LineError)
    → later.refusal ≡ Some error → error.line ≡ reader.lines + 1 → error.cause ≡ Oom → later.types ≡ reader.types → later.waiting ≡ reader.waiting → HasRead later (fed ++ byte ∷ []) taken
out_at reader fed taken on byte later error some line cause types waiting =
    refused later (fed ++ byte ∷ []) taken error some (inl (ran_out reader fed taken on later (byte ∷ []) error types waiting line cause))

-- the end of a text within a line
pub ends_within : (reader : ReaderState) (fed : List ℕ) (taken : List (List Event)) → ReadsOn reader fed taken → reader.tail ≢ [] → (later : ReaderState)
    → later ≡ record reader { begun = []; refusal = Some (record { line = reader.lines + 1; cause = Unended }) } → HasReadToEnd later fed taken
ends_within reader fed taken on some later is =
    subst (λ r. HasReadToEnd r fed taken) (sym is) (inr (record {
      lines = on.lines;
      fault = inr (record {
        fit = on.fit;
        tail = reader.tail;
        within = on.within;
        whole = on.fed_is;
        one_line = on.one_line;
        some = some;
        short = on.short;
        line_is = ap (λ n. n + 1) on.count_is;
        cause = refl;
      });
      closed = ap (λ (b : Batches). b.closed) on.batches;
    }))

-- a text that has ended and was refused
refused_at_end : (reader : ReaderState) (fed : List ℕ) (taken : List (List Event)) (error : LineError) → reader.refusal ≡ Some error
    → RanOut reader fed taken error ⊎ HasFault reader.types fed (taken ++ reader.waiting) error → HasReadToEnd reader fed taken
refused_at_end reader fed taken error some why = subst (λ o. MatchOption o (IsGoodText reader.types fed (taken ++ reader.waiting)) (λ e. RanOut reader fed taken e ⊎ HasFault reader.types fed (taken ++ reader.waiting) e)) (sym some) why

-- a refusal from before the end
pub ends_refused : (reader : ReaderState) (fed : List ℕ) (taken : List (List Event)) (refusal : Option LineError) → is_some refusal ≡ true
    → MatchOption refusal (ReadsOn reader fed taken) (λ error. RanOut reader fed taken error ⊎ MetFault reader fed taken error)
    → MatchOption refusal (IsGoodText reader.types fed (taken ++ reader.waiting)) (λ error. RanOut reader fed taken error ⊎ HasFault reader.types fed (taken ++ reader.waiting) error)
ends_refused reader fed taken None some stands = cc
ends_refused reader fed taken (Some error) some stands = elim stands [
  | inl out ↦ inl out
  | inr met ↦ inr (record { lines = met.lines; fault = inl met.fault; closed = met.batches })
]

-- no memory for the last batch
pub ends_out : (reader : ReaderState) (fed : List ℕ) (taken : List (List Event)) → ReadsOn reader fed taken → (later : ReaderState) (error : LineError)
    → later.refusal ≡ Some error → error.line ≡ reader.lines + 1 → error.cause ≡ Oom → later.types ≡ reader.types → later.waiting ≡ reader.waiting → HasReadToEnd later fed taken
ends_out reader fed taken on later error some line cause types waiting =
    refused_at_end later fed taken error some (inl (subst (λ bytes. RanOut later bytes taken error) (append-nil fed) (ran_out reader fed taken on later [] error types waiting line cause)))

-- the end of a text of good lines
pub ends_well : (reader : ReaderState) (fed : List ℕ) (taken : List (List Event)) → ReadsOn reader fed taken → reader.tail ≡ [] → (later : ReaderState)
    → later.refusal ≡ None → later.types ≡ reader.types → later.waiting ≡ reader.waiting ++ piece_of reader.begun → HasReadToEnd later fed taken
ends_well reader fed taken on none later going types waiting =
    subst (λ o. MatchOption o (IsGoodText later.types fed (taken ++ later.waiting)) (λ e. RanOut later fed taken e ⊎ HasFault later.types fed (taken ++ later.waiting) e)) (sym going)
    (subst (λ t. IsGoodText t fed (taken ++ later.waiting)) (sym types) (record {
      lines = on.lines;
      fit = on.fit;
      whole = on.fed_is ∙ (ap (λ t. text_of_lines reader.types on.lines ++ t) none ∙ append-nil (text_of_lines reader.types on.lines));
      within = on.within;
      closed = ap (λ (b : Batches). b.closed ++ piece_of b.begun) on.batches ∙ (append_assoc taken reader.waiting (piece_of reader.begun) ∙ ap (λ w. taken ++ w) (sym waiting));
    }))
