use Rattle.std.specs.Prelude.{◌≡◌, ℕ, ◌<◌, Bool, ◌&&◌, ◌||◌, false, ◌==◌, nat_le, List, [], ◌∷◌, ◌++◌, length, Option, None, Some, slice_get, codes, decimal, IsTrue}
use Rattle.std.specs.List.{list_all}
use Rattle.std.specs.Option.{option_map_or}
use Rattle.causal_base.specs.declared.event.Event.{Event}
use Rattle.causal_base.specs.declared.event_id.EventId.{EventId}
use Rattle.causal_base.specs.declared.limits.TheConstants.{NUMBER_BOUND}
use Rattle.causal_base.specs.Types.{TypeTable}

-- a number below 10^18 in decimal, without leading zeros
pub record IsNumber (bytes : List ℕ) (n : ℕ) : Type 0 where
  pub small : n < NUMBER_BOUND
  pub spelled : bytes ≡ decimal n

-- an ASCII letter
abbrev pub is_letter : ℕ → Bool
is_letter c = (nat_le 97 c && nat_le c 122) || (nat_le 65 c && nat_le c 90)

-- a letter, a digit or `_`
abbrev pub is_name_byte : ℕ → Bool
is_name_byte c = is_letter c || ((nat_le 48 c && nat_le c 57) || (c == 95))

-- a letter, and at most 31 letters, digits and `_` after it
abbrev pub is_name_text : List ℕ → Bool
is_name_text [] = false
is_name_text (c ∷ cs) = is_letter c && (nat_le (length cs) 31 && list_all is_name_byte cs)

abbrev pub IsName : List ℕ → Type 0
IsName bytes = IsTrue (is_name_text bytes)

-- two numbers with a full stop between them
abbrev pub stop_between : ℕ → ℕ → List ℕ
stop_between trace number = decimal trace ++ (codes "." ++ decimal number)

-- the bytes are an id of this trace and number, in range or not
pub record IsId (bytes : List ℕ) (trace number : ℕ) : Type 0 where
  pub small_trace : trace < NUMBER_BOUND
  pub small_number : number < NUMBER_BOUND
  pub spelled : bytes ≡ stop_between trace number

-- the text of an id
abbrev pub id_text : EventId → List ℕ
id_text id = stop_between id.trace id.number

-- the name of a type
abbrev pub name_of : TypeTable → ℕ → List ℕ
name_of types type_no = option_map_or (λ row. row.name) (slice_get types.rows type_no) []

-- the field for what an event names
abbrev pub mate_text : Option EventId → List ℕ
mate_text None = codes "-"
mate_text (Some id) = id_text id

-- a text stands behind a space, and an empty one isn't written
abbrev pub text_part : List ℕ → List ℕ
text_part [] = []
text_part (c ∷ cs) = codes " " ++ (c ∷ cs)

-- The one line of an event, without its end: id, type, mate and time with one space between them,
-- and the text.
abbrev pub spelling : TypeTable → Event → List ℕ
spelling types e =
    id_text e.id ++ (codes " " ++ (name_of types e.type_no
    ++ (codes " " ++ (mate_text e.mate
    ++ (codes " " ++ (decimal e.time ++ text_part e.text))))))
