use Rattle.std.proofs.Common.{◌≡◌, ℕ, suc, ◌+◌, ◌-◌, List, [], drop, length, sym, ap, ◌∙◌, subst, arith, append-nil}
use Rattle.std.proofs.lemmas.List.{drop-drop}
use Rattle.cbor_head.specs.Prelude.{Spelling, IsValid, value_of}
use Rattle.cbor_head.specs.declared.order.KeyOrder.{KeyOrder}
use Rattle.cbor_cursor.specs.Index.{listed, placed, table, IsCanonicalItem}
use Rattle.cbor_cursor.proofs.IndexEntries.{AreEntries, entries, entry_at, GoesOnAt, goes_on_at, StartsAt, starts_at}
use Rattle.cbor_cursor.proofs.laws.entries_lead_to_items.Goals as goal
use Rattle.cbor_cursor.{specs.Offsets.offsets_of, proofs.OneItem.same_result, proofs.IndexOwn.definite_own, proofs.IndexOwn.all_parts_own}

table_entries : (o : KeyOrder) (s : Spelling) (bytes : List ℕ) → IsCanonicalItem o s bytes → IsValid (value_of s) → AreEntries o bytes (table 0 s)
table_entries o s bytes c v =
    subst (AreEntries o bytes) (append-nil (listed placed 0 s)) (
    entries o bytes s 0 [] [] (definite_own o s bytes c) (all_parts_own o s bytes c v) (c.bytes_are ∙ sym (append-nil _)) (omega (arith, ap length c.bytes_are)) tt)

pub returns-clause-item : goal.returns-clause-item
returns-clause-item c = λ o s bytes i x own v at. let e = entry_at o bytes (table 0 s) i x (table_entries o s bytes own v) at in (e.value, e.rest, e.item)

pub returns-clause-within : goal.returns-clause-within
returns-clause-within c = λ o s bytes i x own v at. let e = entry_at o bytes (table 0 s) i x (table_entries o s bytes own v) at in e.bounds

pub returns-clause-returned : goal.returns-clause-returned
returns-clause-returned c = λ o s bytes i x r own v at item there inside.
    let e = entry_at o bytes (table 0 s) i x (table_entries o s bytes own v) at in
    same_result o bytes e.rest e.value (offsets_of x) r e.item e.bounds (item e.value e.rest e.item.starts) there inside

pub returns-clause-first : goal.returns-clause-first
returns-clause-first c = λ o s bytes i x own v at l.
    let e = entry_at o bytes (table 0 s) i x (table_entries o s bytes own v) at in
    let next : suc i ≡ i + 1 = omega arith in
    starts_at (table 0 s) x.content (i + 1) (subst (λ (k : ℕ). StartsAt x.content (drop k (table 0 s))) next (e.first l))

pub returns-clause-next : goal.returns-clause-next
returns-clause-next c = λ o s bytes i x own v at.
    let e = entry_at o bytes (table 0 s) i x (table_entries o s bytes own v) at in
    let index : suc i + (x.entries - 1) ≡ i + x.entries = omega (arith, e.some) in
    let further : drop (x.entries - 1) (drop (suc i) (table 0 s)) ≡ drop (i + x.entries) (table 0 s) =
    drop-drop (x.entries - 1) (suc i) (table 0 s) ∙ ap (λ (k : ℕ). drop k (table 0 s)) index in
    goes_on_at (table 0 s) (length bytes) x.end (i + x.entries) (subst (GoesOnAt (length bytes) x.end) further e.next)
