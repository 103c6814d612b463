use Rattle.std.proofs.Common.{◌-◌, drop, take, sym, ◌∙◌, subst, arith}
use Rattle.cbor_head.specs.{Canonical.canonical, Value.Value, Value.map}
use Rattle.theory_values.proofs.{Sound.sound, Sound.sound_at, Reported.canonical_injective, Agreement.canonical_agrees}
use Rattle.theory_values.specs.Lookup.{HasValueAt}
use Rattle.cbor_cursor.proofs.map_pairs.value_at.Goals as goal
use Rattle.cbor_cursor.{specs.Decoded.decoded, proofs.SpelledItems.canonical_item, proofs.Slices.between}
use Rattle.cbor_cursor.proofs.{NormalValues.part, NormalValues.entry_normal, ItemParts.map_content}

pub returns-in_err-start-clause-value : goal.returns-in_err-start-clause-value
returns-in_err-start-clause-value c = λ o k i h g e.
    let f = c.in_ok-content.ensures o i in
    let m = map_content o c.args.bytes.now c.in_ok-content.content.now c.in_ok-content.count i f.0 f.1 f.2 in
    let none = c.in_err-start.ensures.pair o m.es _ m.pairs in
    rw c.from_residual-in_err-start.ensures (λ v at.
    let x = subst (λ (w : Value). HasValueAt w k v) m.is at in
    none x.0 v x.1 (canonical_agrees o x.0 k (sound_at m.es x.0 v m.pairs.range.1 m.pairs.valid.0 x.1).0 (sound k h g) x.2 ∙ sym e))

pub returns-in_err-end-clause-value : goal.returns-in_err-end-clause-value
returns-in_err-end-clause-value c = λ o k i h g e.
    let f = c.in_ok-content.ensures o i in
    let m = map_content o c.args.bytes.now c.in_ok-content.content.now c.in_ok-content.count i f.0 f.1 f.2 in
    let p = c.in_ok-start.ensures.pair o m.es _ m.pairs in
    absurd (c.in_err-end.ensures.item _ (canonical_item o p.value _ _ p.begins))

pub returns-clause-item : goal.returns-clause-item
returns-clause-item c = λ o i.
    let content = c.in_ok-content.content.now in
    let f = c.in_ok-content.ensures o i in
    let m = map_content o c.args.bytes.now content c.in_ok-content.count i f.0 f.1 f.2 in
    let p = c.in_ok-start.ensures.pair o m.es _ m.pairs in
    let e = (c.in_ok-end.ensures.item _).0 (canonical_item o p.value _ _ p.begins) in
    let w = c.in_ok-end.ensures.within in
    let cut = between content c.in_ok-start.start c.in_ok-end.end (canonical o p.value) _ (omega (arith, w)) w.1 p.begins.begins e in
    (part o p.value _ p.begins.range p.begins.valid (entry_normal o m.es m.pairs.range.1 m.pairs.valid.0 m.normal_is p.stored p.value p.has).1 cut).canonical_is

pub returns-clause-value : goal.returns-clause-value
returns-clause-value c = λ o k i h g e.
    let content = c.in_ok-content.content.now in
    let f = c.in_ok-content.ensures o i in
    let m = map_content o c.args.bytes.now content c.in_ok-content.count i f.0 f.1 f.2 in
    let p = c.in_ok-start.ensures.pair o m.es _ m.pairs in
    let d = (c.in_ok-end.ensures.item _).0 (canonical_item o p.value _ _ p.begins) in
    let w = c.in_ok-end.ensures.within in
    let cut = between content c.in_ok-start.start c.in_ok-end.end (canonical o p.value) _ (omega (arith, w)) w.1 p.begins.begins d in
    let is = (part o p.value _ p.begins.range p.begins.valid (entry_normal o m.es m.pairs.range.1 m.pairs.valid.0 m.normal_is p.stored p.value p.has).1 cut).value_is in
    let s = sound_at m.es p.stored p.value m.pairs.range.1 m.pairs.valid.0 p.has in
    let at : HasValueAt (map m.es) k p.value = (p.stored, p.has, canonical_injective o p.stored k s.0.range h (p.key_is ∙ e)) in
    subst (λ (u : Value). HasValueAt u k (decoded (take (c.in_ok-end.end - c.in_ok-start.start) (drop c.in_ok-start.start content)))) (sym m.is) (subst (HasValueAt (map m.es) k) (sym is) at)

pub returns-clause-other : goal.returns-clause-other
returns-clause-other c = λ o i no.
    let f = c.in_ok-content.ensures o i in
    let m = map_content o c.args.bytes.now c.in_ok-content.content.now c.in_ok-content.count i f.0 f.1 f.2 in
    let p = c.in_ok-start.ensures.pair o m.es _ m.pairs in
    let s = sound_at m.es p.stored p.value m.pairs.range.1 m.pairs.valid.0 p.has in
    absurd (no p.stored s.0.range s.0.valid (sym p.key_is))
