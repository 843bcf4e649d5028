use Rattle.std.proofs.Common.{◌≡◌, ℕ, ◌^◌, ◌<◌, ◌≤◌, List, [], ◌∷◌, length, All, Option, None, Some, IfSome, true, inl, inr, lit<, arith}
use Rattle.std.specs.Prelude.{decimal, ◌&&◌, ◌||◌, nat_le, ◌==◌}
use Rattle.std.specs.List.{list_all}
use Rattle.std.proofs.lemmas.Bool.{and_parts, or_cases, leb-true, eqb-true}
use Rattle.std.proofs.lemmas.Fmt.{digits_decimal}
use Rattle.std.proofs.lemmas.List.Elements.{All-from_get_or, All-append, All-cons, All-nil, All-weaker}
use Rattle.std.proofs.lemmas.Str.Parse.{digit_at}
use Rattle.causal_base.specs.declared.event_id.EventId.{EventId}
use Rattle.causal_base.specs.Event.{IsInRange as IsIdInRange}
use Rattle.causal_base.specs.Spelling.{IsName, is_letter, is_name_byte, id_text, mate_text, stop_between}
use Rattle.causal_base.specs.Types.{TypeTable}
use Rattle.causal_base.proofs.CallerLemmas.{own_digits, below_two_to_64}

-- every byte is above the space, as in each field of a line but the text
abbrev pub IsVisible : List ℕ → Type 0
IsVisible bytes = All (λ b. 32 < b) bytes

-- visible bytes have no space and no line feed
pub visible_lacks : (c : ℕ) (bytes : List ℕ) → c ≤ 32 → IsVisible bytes → All (λ b. b ≡ c → ⊥) bytes
visible_lacks c bytes low visible = All-weaker (λ b. 32 < b) (λ b. b ≡ c → ⊥) (λ b above same. omega arith) bytes visible

-- a number in decimal is visible
pub decimal_visible : (n : ℕ) → n < 10 ^ 18 → IsVisible (decimal n)
decimal_visible n small = All-from_get_or (λ b. 32 < b) (decimal n) 0
    (λ i within. omega (arith, digit_at (decimal n) i (digits_decimal own_digits n (below_two_to_64 n small)) within))

-- two numbers with a full stop between them are visible
pub stop_visible : (trace number : ℕ) → trace < 10 ^ 18 → number < 10 ^ 18 → IsVisible (stop_between trace number)
stop_visible trace number small few =
    All-append (λ b. 32 < b) (decimal trace) (46 ∷ decimal number) (decimal_visible trace small)
    (All-cons (λ b. 32 < b) 46 (decimal number) (lit< tt) (decimal_visible number few))

-- an id in range is visible
pub id_visible : (types : TypeTable) (id : EventId) → types.traces ≤ 256 → IsIdInRange types id → IsVisible (id_text id)
id_visible types id few range = stop_visible id.trace id.number (omega (arith, range.trace)) (omega (arith, range.most))

-- what an event names is visible
pub mate_visible : (types : TypeTable) (mate : Option EventId) → types.traces ≤ 256 → IfSome mate (IsIdInRange types) → IsVisible (mate_text mate)
mate_visible types None few range = All-cons (λ b. 32 < b) 45 [] (lit< tt) (All-nil (λ b. 32 < b))
mate_visible types (Some id) few range = id_visible types id few range

-- a letter is above the space
letter_visible : (c : ℕ) → is_letter c ≡ true → 32 < c
letter_visible c letter = elim (or_cases (nat_le 97 c && nat_le c 122) (nat_le 65 c && nat_le c 90) letter) [
  | inl low ↦ omega (arith, leb-true 97 c (and_parts _ _ low).0)
  | inr high ↦ omega (arith, leb-true 65 c (and_parts _ _ high).0)
]

-- so is every byte of a name
name_byte_visible : (c : ℕ) → is_name_byte c ≡ true → 32 < c
name_byte_visible c name = elim (or_cases (is_letter c) ((nat_le 48 c && nat_le c 57) || (c == 95)) name) [
  | inl letter ↦ letter_visible c letter
  | inr other ↦ elim (or_cases (nat_le 48 c && nat_le c 57) (c == 95) other) [
    | inl digit ↦ omega (arith, leb-true 48 c (and_parts _ _ digit).0)
    | inr line ↦ omega (arith, eqb-true c 95 line)
  ]
]

name_bytes_visible : (bytes : List ℕ) → list_all is_name_byte bytes ≡ true → IsVisible bytes
name_bytes_visible [] name = All-nil (λ b. 32 < b)
name_bytes_visible (c ∷ cs) name =
    let parts = and_parts (is_name_byte c) (list_all is_name_byte cs) name in
    All-cons (λ b. 32 < b) c cs (name_byte_visible c parts.0) (name_bytes_visible cs parts.1)

-- a name is visible
pub name_visible : (bytes : List ℕ) → IsName bytes → IsVisible bytes
name_visible [] name = All-nil (λ b. 32 < b)
name_visible (c ∷ cs) name =
    let parts = and_parts (is_letter c) (nat_le (length cs) 31 && list_all is_name_byte cs) name in
    All-cons (λ b. 32 < b) c cs (letter_visible c parts.0)
    (name_bytes_visible cs (and_parts (nat_le (length cs) 31) (list_all is_name_byte cs) parts.1).1)
