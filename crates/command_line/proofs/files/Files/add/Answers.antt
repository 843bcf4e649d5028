use Rattle.std.proofs.Common.{◌≡◌, ◌<◌, ◌↔◌, ℕ, List, [], ◌∷◌, ◌++◌, length, Bool, true, false, Option, Some, None, Bor, sym, ap, subst, refl}
use Rattle.std.specs.Prelude.{IsTrue}
use Rattle.std.specs.Bool.{OnFalse, OnTrue}
use Rattle.std.specs.Option.{option_map}
use Rattle.command_line.specs.declared.limits.TheConstants.{MOST_NAMES}
use Rattle.command_line.specs.Asking.{item_of}
use Rattle.command_line.specs.Items.{AreFiles, IsFullFor, Item}
use Rattle.command_line.proofs.ItemLemmas.{client_added, client_full, closing_added, closing_full, events_added, events_full}
use Rattle.command_line.proofs.files.Files.add.Goals as goal

-- what holds where there was room
on_room : (result : Bool) (Room Added Holds : Type 0) → (IsTrue result ↔ Room) → OnTrue result Added → (Room → Added → Holds) → OnTrue result Holds
on_room true Room Added Holds room added holds = holds (room.0 refl) added
on_room false Room Added Holds room added holds = tt

-- and where there was none
on_full : (result : Bool) (Room Holds : Type 0) → (IsTrue result ↔ Room) → ((Room → ⊥) → Holds) → OnFalse result Holds
on_full true Room Holds room holds = tt
on_full false Room Holds room holds = holds (λ some. let wrong : false ≡ true = room.1 some in absurd cc)

pub returns-in-Events-clause-added : goal.returns-in-Events-clause-added
returns-in-Events-clause-added c =
    let old = c.args.self.now in
    let closing : Option (List ℕ) = option_map (λ (name : Bor (List ℕ)). name.now) old.closing in
    on_room c.push.result (length old.events < MOST_NAMES) (c.push.new.self ≡ old.events ++ c.in-Events.name.now ∷ []) ((items : List Item) → AreFiles items old.events old.clients closing → AreFiles (items ++ item_of c.args.item ∷ []) c.push.new.self old.clients closing) c.push.ensures.room c.push.ensures.added
    (λ room added items files. subst (λ item. AreFiles (items ++ item ∷ []) c.push.new.self old.clients closing) (sym (ap item_of c.in-Events.is))
    (events_added items c.in-Events.name.now old.events c.push.new.self old.clients closing room added files))

pub returns-in-Events-clause-full : goal.returns-in-Events-clause-full
returns-in-Events-clause-full c =
    let old = c.args.self.now in
    let closing : Option (List ℕ) = option_map (λ (name : Bor (List ℕ)). name.now) old.closing in
    on_full c.push.result (length old.events < MOST_NAMES) ((items : List Item) → AreFiles items old.events old.clients closing → IsFullFor items (item_of c.args.item)) c.push.ensures.room
    (λ full items files. subst (IsFullFor items) (sym (ap item_of c.in-Events.is)) (events_full items c.in-Events.name.now old.events old.clients closing full files))

pub returns-in-Client-clause-added : goal.returns-in-Client-clause-added
returns-in-Client-clause-added c =
    let old = c.args.self.now in
    let closing : Option (List ℕ) = option_map (λ (name : Bor (List ℕ)). name.now) old.closing in
    on_room c.push-in-Client.result (length old.clients < MOST_NAMES) (c.push-in-Client.new.self ≡ old.clients ++ c.in-Client.name.now ∷ []) ((items : List Item) → AreFiles items old.events old.clients closing → AreFiles (items ++ item_of c.args.item ∷ []) old.events c.push-in-Client.new.self closing) c.push-in-Client.ensures.room c.push-in-Client.ensures.added
    (λ room added items files. subst (λ item. AreFiles (items ++ item ∷ []) old.events c.push-in-Client.new.self closing) (sym (ap item_of c.in-Client.is))
    (client_added items c.in-Client.name.now old.events old.clients c.push-in-Client.new.self closing room added files))

pub returns-in-Client-clause-full : goal.returns-in-Client-clause-full
returns-in-Client-clause-full c =
    let old = c.args.self.now in
    let closing : Option (List ℕ) = option_map (λ (name : Bor (List ℕ)). name.now) old.closing in
    on_full c.push-in-Client.result (length old.clients < MOST_NAMES) ((items : List Item) → AreFiles items old.events old.clients closing → IsFullFor items (item_of c.args.item)) c.push-in-Client.ensures.room
    (λ full items files. subst (IsFullFor items) (sym (ap item_of c.in-Client.is)) (client_full items c.in-Client.name.now old.events old.clients closing full files))

pub returns-in-Closing-clause-added : goal.returns-in-Closing-clause-added
returns-in-Closing-clause-added c =
    let old = c.args.self.now in
    let closing : Option (List ℕ) = option_map (λ (name : Bor (List ℕ)). name.now) old.closing in
    let more : Option (List ℕ) = option_map (λ (name : Bor (List ℕ)). name.now) c.put_first.new.place in
    on_room c.put_first.result (closing ≡ None) (more ≡ Some c.in-Closing.name.now) ((items : List Item) → AreFiles items old.events old.clients closing → AreFiles (items ++ item_of c.args.item ∷ []) old.events old.clients more) c.put_first.ensures.empty c.put_first.ensures.put
    (λ none put items files. subst (λ item. AreFiles (items ++ item ∷ []) old.events old.clients more) (sym (ap item_of c.in-Closing.is))
    (closing_added items c.in-Closing.name.now old.events old.clients closing more none put files))

pub returns-in-Closing-clause-full : goal.returns-in-Closing-clause-full
returns-in-Closing-clause-full c =
    let old = c.args.self.now in
    let closing : Option (List ℕ) = option_map (λ (name : Bor (List ℕ)). name.now) old.closing in
    on_full c.put_first.result (closing ≡ None) ((items : List Item) → AreFiles items old.events old.clients closing → IsFullFor items (item_of c.args.item)) c.put_first.ensures.empty
    (λ full items files. subst (IsFullFor items) (sym (ap item_of c.in-Closing.is)) (closing_full items c.in-Closing.name.now old.events old.clients closing full files))
