-- The files that words name.
use Rattle.std.proofs.Common.{◌≡◌, ◌≢◌, ℕ, ◌+◌, ◌<◌, ◌≤◌, List, [], ◌∷◌, ◌++◌, length, map, take, drop, get_or, Option, None, Some, append-nil, length-append, inl, inr, refl, sym, ap, subst, ◌∙◌, arith}
use Rattle.std.specs.List.{AllByRecursion}
use Rattle.std.specs.Option.{option_to_list}
use Rattle.std.proofs.lemmas.Bool.{cases_lt}
use Rattle.std.proofs.lemmas.List.{drop_more, map-append, take-append-drop, take_more}
use Rattle.std.proofs.lemmas.List.Elements.{All-push, recursion_from_All}
use Rattle.command_line.specs.declared.limits.TheConstants.{MOST_NAMES}
use Rattle.command_line.specs.Items.{AreFiles, IsFullFor, IsItem, Item, Events, Client, Closing, NameFiles, clients_of, closings_of, events_of, item_name, item_text}

-- a word is one item at most
pub item_once : (item other : Item) → item_text item ≡ item_text other → item ≡ other
item_once (Events name) (Events other) same = let whole : 101 ∷ 58 ∷ name ≡ 101 ∷ 58 ∷ other = same in cc
item_once (Events name) (Client other) same = absurd (let first : 101 ≡ 99 = ap (λ bytes. get_or bytes 0 0) same in omega (arith, first))
item_once (Events name) (Closing other) same = absurd (let first : 101 ≡ 122 = ap (λ bytes. get_or bytes 0 0) same in omega (arith, first))
item_once (Client name) (Events other) same = absurd (let first : 99 ≡ 101 = ap (λ bytes. get_or bytes 0 0) same in omega (arith, first))
item_once (Client name) (Client other) same = let whole : 99 ∷ 58 ∷ name ≡ 99 ∷ 58 ∷ other = same in cc
item_once (Client name) (Closing other) same = absurd (let first : 99 ≡ 122 = ap (λ bytes. get_or bytes 0 0) same in omega (arith, first))
item_once (Closing name) (Events other) same = absurd (let first : 122 ≡ 101 = ap (λ bytes. get_or bytes 0 0) same in omega (arith, first))
item_once (Closing name) (Client other) same = absurd (let first : 122 ≡ 99 = ap (λ bytes. get_or bytes 0 0) same in omega (arith, first))
item_once (Closing name) (Closing other) same = let whole : 122 ∷ 58 ∷ name ≡ 122 ∷ 58 ∷ other = same in cc

-- words are items in one way
pub items_once : (items others : List Item) → map item_text items ≡ map item_text others → items ≡ others
items_once [] [] same = refl
items_once [] (o ∷ os) same = absurd cc
items_once (i ∷ is) [] same = absurd cc
items_once (i ∷ is) (o ∷ os) same =
    let heads : item_text i ≡ item_text o = cc in
    let tails : map item_text is ≡ map item_text os = cc in
    let first = item_once i o heads in
    let later = items_once is os tails in
    cc

-- words that begin as these items do are these items and more
pub begin_same : (items others : List Item) (item : Item) (words : List (List ℕ)) → map item_text others ≡ map item_text items ++ item_text item ∷ words → (more : List Item) × (others ≡ items ++ item ∷ more)
begin_same [] [] item words same = absurd cc
begin_same [] (o ∷ os) item words same =
    let heads : item_text o ≡ item_text item = cc in
    (os, ap (λ first. first ∷ os) (item_once o item heads))
begin_same (i ∷ is) [] item words same = absurd cc
begin_same (i ∷ is) (o ∷ os) item words same =
    let heads : item_text o ≡ item_text i = cc in
    let tails : map item_text os ≡ map item_text is ++ item_text item ∷ words = cc in
    let later = begin_same is os item words tails in
    let first = item_once o i heads in
    (later.0, ap (λ head. head ∷ os) first ∙ ap (λ tail. i ∷ tail) later.1)

-- the names of each kind add up
pub events_of-append : (items others : List Item) → events_of (items ++ others) ≡ events_of items ++ events_of others
events_of-append [] others = refl
events_of-append (Events name ∷ items) others = ap (λ names. name ∷ names) (events_of-append items others)
events_of-append (Client name ∷ items) others = events_of-append items others
events_of-append (Closing name ∷ items) others = events_of-append items others

pub clients_of-append : (items others : List Item) → clients_of (items ++ others) ≡ clients_of items ++ clients_of others
clients_of-append [] others = refl
clients_of-append (Events name ∷ items) others = clients_of-append items others
clients_of-append (Client name ∷ items) others = ap (λ names. name ∷ names) (clients_of-append items others)
clients_of-append (Closing name ∷ items) others = clients_of-append items others

pub closings_of-append : (items others : List Item) → closings_of (items ++ others) ≡ closings_of items ++ closings_of others
closings_of-append [] others = refl
closings_of-append (Events name ∷ items) others = closings_of-append items others
closings_of-append (Client name ∷ items) others = closings_of-append items others
closings_of-append (Closing name ∷ items) others = ap (λ names. name ∷ names) (closings_of-append items others)

-- one more file of events
pub events_added : (items : List Item) (name : List ℕ) (events more clients : List (List ℕ)) (closing : Option (List ℕ)) → length events < MOST_NAMES → more ≡ events ++ name ∷ [] → AreFiles items events clients closing → AreFiles (items ++ Events name ∷ []) more clients closing
events_added items name events more clients closing room is files = record {
  events_are = is ∙ (ap (λ names. names ++ name ∷ []) files.events_are ∙ sym (events_of-append items (Events name ∷ [])));
  most_events = omega (arith, room, ap length is, length-append events (name ∷ []));
  clients_are = files.clients_are ∙ sym (clients_of-append items (Events name ∷ []) ∙ append-nil (clients_of items));
  most_clients = files.most_clients;
  closing_is = files.closing_is ∙ sym (closings_of-append items (Events name ∷ []) ∙ append-nil (closings_of items));
}

-- one more script of a client
pub client_added : (items : List Item) (name : List ℕ) (events clients more : List (List ℕ)) (closing : Option (List ℕ)) → length clients < MOST_NAMES → more ≡ clients ++ name ∷ [] → AreFiles items events clients closing → AreFiles (items ++ Client name ∷ []) events more closing
client_added items name events clients more closing room is files = record {
  events_are = files.events_are ∙ sym (events_of-append items (Client name ∷ []) ∙ append-nil (events_of items));
  most_events = files.most_events;
  clients_are = is ∙ (ap (λ names. names ++ name ∷ []) files.clients_are ∙ sym (clients_of-append items (Client name ∷ [])));
  most_clients = omega (arith, room, ap length is, length-append clients (name ∷ []));
  closing_is = files.closing_is ∙ sym (closings_of-append items (Client name ∷ []) ∙ append-nil (closings_of items));
}

-- the closing script
pub closing_added : (items : List Item) (name : List ℕ) (events clients : List (List ℕ)) (closing more : Option (List ℕ)) → closing ≡ None → more ≡ Some name → AreFiles items events clients closing → AreFiles (items ++ Closing name ∷ []) events clients more
closing_added items name events clients closing more none is files = record {
  events_are = files.events_are ∙ sym (events_of-append items (Closing name ∷ []) ∙ append-nil (events_of items));
  most_events = files.most_events;
  clients_are = files.clients_are ∙ sym (clients_of-append items (Closing name ∷ []) ∙ append-nil (clients_of items));
  most_clients = files.most_clients;
  closing_is = ap option_to_list is ∙ (ap (λ names. names ++ name ∷ []) (sym (ap option_to_list none) ∙ files.closing_is) ∙ sym (closings_of-append items (Closing name ∷ [])));
}

-- where there is no room, there are 16
at_least : (names : List (List ℕ)) → (length names < MOST_NAMES → ⊥) → MOST_NAMES ≤ length names
at_least names full = elim (cases_lt (length names) MOST_NAMES) [ inl few ↦ absurd (full few) | inr many ↦ many ]

-- a seventeenth file of events
pub events_full : (items : List Item) (name : List ℕ) (events clients : List (List ℕ)) (closing : Option (List ℕ)) → (length events < MOST_NAMES → ⊥) → AreFiles items events clients closing → IsFullFor items (Events name)
events_full items name events clients closing full files = λ more names scripts last all.
    omega (arith, at_least events full, all.most_events, ap length files.events_are, ap length all.events_are, ap length (events_of-append items (Events name ∷ more)), length-append (events_of items) (name ∷ events_of more))

-- a seventeenth script of a client
pub client_full : (items : List Item) (name : List ℕ) (events clients : List (List ℕ)) (closing : Option (List ℕ)) → (length clients < MOST_NAMES → ⊥) → AreFiles items events clients closing → IsFullFor items (Client name)
client_full items name events clients closing full files = λ more names scripts last all.
    omega (arith, at_least clients full, all.most_clients, ap length files.clients_are, ap length all.clients_are, ap length (clients_of-append items (Client name ∷ more)), length-append (clients_of items) (name ∷ clients_of more))

-- an option has one value at most
one_at_most : (option : Option (List ℕ)) → length (option_to_list option) ≤ 1
one_at_most None = omega arith
one_at_most (Some value) = omega arith

some_value : (option : Option (List ℕ)) → (option ≡ None → ⊥) → 1 ≤ length (option_to_list option)
some_value None full = absurd (full refl)
some_value (Some value) full = omega arith

-- a second closing script
pub closing_full : (items : List Item) (name : List ℕ) (events clients : List (List ℕ)) (closing : Option (List ℕ)) → (closing ≡ None → ⊥) → AreFiles items events clients closing → IsFullFor items (Closing name)
closing_full items name events clients closing full files = λ more names scripts last all.
    omega (arith, some_value closing full, ap length files.closing_is, ap length all.closing_is, one_at_most last, ap length (closings_of-append items (Closing name ∷ more)), length-append (closings_of items) (name ∷ closings_of more))

-- a word among items is one
pub word_is_item : (front : List (List ℕ)) (word : List ℕ) (rest : List (List ℕ)) (items : List Item) → map item_text items ≡ front ++ word ∷ rest → AllByRecursion (λ item. item_name item ≢ []) items → (item : Item) × IsItem word item
word_is_item [] word rest [] same named = absurd cc
word_is_item [] word rest (i ∷ is) same named =
    let heads : word ≡ item_text i = cc in (i, record { spelled = heads; named = named.0 })
word_is_item (f ∷ fs) word rest [] same named = absurd cc
word_is_item (f ∷ fs) word rest (i ∷ is) same named =
    let tails : map item_text is ≡ fs ++ word ∷ rest = cc in word_is_item fs word rest is tails named.1

-- the words so far, and one more
pub names_more : (words : List (List ℕ)) (word : List ℕ) (item : Item) (events clients others scripts : List (List ℕ)) (closing last : Option (List ℕ))
    → (named : NameFiles words events clients closing) → IsItem word item → AreFiles (named.items ++ item ∷ []) others scripts last → NameFiles (words ++ word ∷ []) others scripts last
names_more words word item events clients others scripts closing last named is files = record {
  items = named.items ++ item ∷ [];
  spelled = ap (λ front. front ++ word ∷ []) named.spelled ∙ (ap (λ one. map item_text named.items ++ one ∷ []) is.spelled ∙ sym (map-append item_text named.items (item ∷ [])));
  named = All-push (λ item. item_name item ≢ []) named.items item named.named is.named;
  files = files;
}

-- words with one that is no file are none
pub no_files : (front : List (List ℕ)) (word : List ℕ) (rest : List (List ℕ)) → ((item : Item) → IsItem word item → ⊥) → (events clients : List (List ℕ)) (closing : Option (List ℕ)) → NameFiles (front ++ word ∷ rest) events clients closing → ⊥
no_files front word rest none events clients closing named =
    let found = word_is_item front word rest named.items (sym named.spelled) (recursion_from_All (λ item. item_name item ≢ []) named.items named.named) in
    none found.0 found.1

-- words with one file too many are none
pub too_many : (front : List (List ℕ)) (word : List ℕ) (rest : List (List ℕ)) (items : List Item) (item : Item) → front ≡ map item_text items → IsItem word item → IsFullFor items item → (events clients : List (List ℕ)) (closing : Option (List ℕ)) → NameFiles (front ++ word ∷ rest) events clients closing → ⊥
too_many front word rest items item spelled is full events clients closing named =
    let begins : map item_text named.items ≡ map item_text items ++ item_text item ∷ rest = sym named.spelled ∙ (ap (λ words. words ++ word ∷ rest) spelled ∙ ap (λ one. map item_text items ++ one ∷ rest) is.spelled) in
    let found = begin_same items named.items item rest begins in
    full found.0 events clients closing (subst (λ all. AreFiles all events clients closing) found.1 named.files)

-- words name files in one way
pub files_once : (words events others clients scripts : List (List ℕ)) (closing last : Option (List ℕ)) → NameFiles words events clients closing → NameFiles words others scripts last → (events ≡ others) × (clients ≡ scripts) × (closing ≡ last)
files_once words events others clients scripts closing last named also =
    let same = items_once named.items also.items (sym named.spelled ∙ also.spelled) in (
      named.files.events_are ∙ (ap events_of same ∙ sym also.files.events_are),
      named.files.clients_are ∙ (ap clients_of same ∙ sym also.files.clients_are),
      same_option closing last (named.files.closing_is ∙ (ap closings_of same ∙ sym also.files.closing_is)),
    )
  where
    same_option : (one other : Option (List ℕ)) → option_to_list one ≡ option_to_list other → one ≡ other
    same_option None None same = refl
    same_option None (Some b) same = absurd cc
    same_option (Some a) None same = absurd cc
    same_option (Some a) (Some b) same = cc

-- a list at one of its elements
module _ {X : Type 0} (f : X → List ℕ) (xs : List X) (i : ℕ) (x : X) (within : i < length xs) (is : x ≡ get_or xs i x) where
  pub around : map f xs ≡ map f (take i xs) ++ f x ∷ map f (drop (i + 1) xs)
  around =
      ap (λ all. map f all) (sym (take-append-drop i xs)) ∙ (map-append f (take i xs) (drop i xs)
      ∙ ap (λ rest. map f (take i xs) ++ map f rest) (drop_more xs i x within ∙ ap (λ y. y ∷ drop (i + 1) xs) (sym is)))

  pub up_to : map f (take (i + 1) xs) ≡ map f (take i xs) ++ f x ∷ []
  up_to =
      ap (λ all. map f all) (take_more xs i x within ∙ ap (λ y. take i xs ++ y ∷ []) (sym is)) ∙ map-append f (take i xs) (x ∷ [])
