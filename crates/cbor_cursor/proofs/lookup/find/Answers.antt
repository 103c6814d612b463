use Rattle.std.proofs.Common.{ℕ, List, refl, sym, ap, subst, ◌∙◌, arith, append-nil}
use Rattle.cbor_head.specs.{Value.Value, Value.map, Head.major_number}
use Rattle.cbor_cursor.proofs.ItemHeads.{from_head, is_map, pairs_of}
use Rattle.cbor_cursor.proofs.lookup.find.Goals as goal
use Rattle.cbor_cursor.{proofs.HeadsAt.same_head, proofs.SpelledItems.canonical_head, proofs.Slices.offset_after, specs.Items.major_of}
use Rattle.cbor_cursor.specs.Offsets.{IsValueAt, HasNoKeyBytes}

pub returns-in_default-clause-pair : goal.returns-in_default-clause-pair
returns-in_default-clause-pair c = λ o es rest k b h g e.
    let v = map es in
    absurd (c.in_default.ensures.head _ _ _ (canonical_head o v _ rest b))

pub returns-in_default-clause-not_map : goal.returns-in_default-clause-not_map
returns-in_default-clause-not_map c = λ o v rest b.
    absurd (c.in_default.ensures.head _ _ _ (canonical_head o v _ rest b))

pub returns-then-head-ne5-clause-pair : goal.returns-then-head-ne5-clause-pair
returns-then-head-ne5-clause-pair c = λ o es rest k b h g e.
    let v = map es in
    let f = same_head _ _ _ _ _ _ _ c.in-Some.ensures.head (canonical_head o v _ rest b) in
    c.if-head-ne5.true f.0

pub returns-then-head-ne5-clause-not_map : goal.returns-then-head-ne5-clause-not_map
returns-then-head-ne5-clause-not_map c = λ o v rest b.
    let f = same_head _ _ _ _ _ _ _ c.in-Some.ensures.head (canonical_head o v _ rest b) in
    ((λ e es is. c.if-head-ne5.true (f.0 ∙ ap (λ (w : Value). major_number (major_of w)) is)), (λ none. refl))

pub returns-in-Some-find_item-clause-pair : goal.returns-in-Some-find_item-clause-pair
returns-in-Some-find_item-clause-pair c = λ o es rest k b h g e.
    let v = map es in
    let f = same_head _ _ _ _ _ _ _ c.in-Some.ensures.head (canonical_head o v _ rest b) in
    c.in-Some-find_item.ensures.pair o es rest k (pairs_of o es _ rest _ _ b f.1 f.2) h g (append-nil c.args.key.now ∙ e)

pub returns-in-Some-find_item-clause-not_map : goal.returns-in-Some-find_item-clause-not_map
returns-in-Some-find_item-clause-not_map c = λ o v rest b.
    let f = same_head _ _ _ _ _ _ _ c.in-Some.ensures.head (canonical_head o v _ rest b) in
    let m = is_map v (sym f.0 ∙ c.if-head-ne5.false) in
    ((λ e. absurd (cc e)), (λ none. absurd (none m.0 m.1)))

pub returns-in-None-clause-pair : goal.returns-in-None-clause-pair
returns-in-None-clause-pair c = λ o es rest k b h g e.
    let v = map es in
    let f = same_head _ _ _ _ _ _ _ c.in-Some.ensures.head (canonical_head o v _ rest b) in
    c.in-None.ensures.pair o es rest k (pairs_of o es _ rest _ _ b f.1 f.2) h g (append-nil c.args.key.now ∙ e)

pub returns-in-None-clause-not_map : goal.returns-in-None-clause-not_map
returns-in-None-clause-not_map c = λ o v rest b.
    let f = same_head _ _ _ _ _ _ _ c.in-Some.ensures.head (canonical_head o v _ rest b) in
    let m = is_map v (sym f.0 ∙ c.if-head-ne5.false) in
    ((λ e. absurd (cc e)), (λ none. absurd (none m.0 m.1)))

pub returns-in_default-clause-any_key : goal.returns-in_default-clause-any_key
returns-in_default-clause-any_key c = λ o es rest b.
    let v = map es in
    absurd (c.in_default.ensures.head _ _ _ (canonical_head o v _ rest b))

pub returns-then-head-ne5-clause-any_key : goal.returns-then-head-ne5-clause-any_key
returns-then-head-ne5-clause-any_key c = λ o es rest b.
    let v = map es in
    let f = same_head _ _ _ _ _ _ _ c.in-Some.ensures.head (canonical_head o v _ rest b) in
    c.if-head-ne5.true f.0

pub returns-in-Some-find_item-clause-any_key : goal.returns-in-Some-find_item-clause-any_key
returns-in-Some-find_item-clause-any_key c = λ o es rest b.
    let v = map es in
    let f = same_head _ _ _ _ _ _ _ c.in-Some.ensures.head (canonical_head o v _ rest b) in
    let w = c.in-Some.ensures.within in
    let start = offset_after c.args.bytes.now c.args.offset c.in-Some.head.content _ _ (omega (arith, w)) w.1 (from_head o v _ rest b) f.2 in
    subst (λ (n : ℕ). IsValueAt o es n c.args.key.now c.args.bytes.now rest c.in-Some-find_item.item) start
    (subst (λ (key : List ℕ). IsValueAt o es c.in-Some.head.content key c.args.bytes.now rest c.in-Some-find_item.item) (append-nil c.args.key.now)
    (c.in-Some-find_item.ensures.any_key o es rest (pairs_of o es _ rest _ _ b f.1 f.2)))

pub returns-in-None-clause-any_key : goal.returns-in-None-clause-any_key
returns-in-None-clause-any_key c = λ o es rest b.
    let v = map es in
    let f = same_head _ _ _ _ _ _ _ c.in-Some.ensures.head (canonical_head o v _ rest b) in
    subst (λ (key : List ℕ). HasNoKeyBytes o es key) (append-nil c.args.key.now)
    (c.in-None.ensures.any_key o es rest (pairs_of o es _ rest _ _ b f.1 f.2))

pub returns-in_default-clause-other_kind : goal.returns-in_default-clause-other_kind
returns-in_default-clause-other_kind c = ((λ e. absurd (cc e)), (λ h. absurd (c.in_default.ensures.head h.0 h.1 h.2 h.3)))

pub returns-then-head-ne5-clause-other_kind : goal.returns-then-head-ne5-clause-other_kind
returns-then-head-ne5-clause-other_kind c = ((λ _. (_, _, _, c.in-Some.ensures.head, c.if-head-ne5.true)), (λ _. refl))

pub returns-in-Some-find_item-clause-other_kind : goal.returns-in-Some-find_item-clause-other_kind
returns-in-Some-find_item-clause-other_kind c =
    ((λ e. absurd (cc e)), (λ h. absurd (h.4 (sym (same_head _ _ _ _ _ _ _ c.in-Some.ensures.head h.3).0 ∙ c.if-head-ne5.false))))

pub returns-in-None-clause-other_kind : goal.returns-in-None-clause-other_kind
returns-in-None-clause-other_kind c =
    ((λ e. absurd (cc e)), (λ h. absurd (h.4 (sym (same_head _ _ _ _ _ _ _ c.in-Some.ensures.head h.3).0 ∙ c.if-head-ne5.false))))
