use Rattle.std.proofs.Common.{◌∙◌, subst, sym, arith}
use Rattle.cbor_head.specs.declared.event.EventKind.TheVariants as kinds
use Rattle.cbor_head.specs.Prelude.{plain}
use Rattle.cbor_builder.specs.Built.{IsLeaf}
use Rattle.theory_verdicts.specs.Reading.{ReadsItem}
use Rattle.cbor_tree_reader.proofs.item_part.read_part.Goals as goal
use Rattle.cbor_tree_reader.proofs.PartPlaces.{come-begun, OfLeaf, leaf-read}
use Rattle.cbor_tree_reader.{specs.inner.PlainParts.BeginsString, proofs.PartKinds.head-item}

pub returns-in-Ok-clause-part : goal.returns-in-Ok-clause-part
returns-in-Ok-clause-part g c = λ b fs t x w i.
    let h = c.in-Ok.ensures.string b fs t x w (come-begun b fs t x c.args.events.now w c.args.kind (kinds.Bytes c.in-Bytes.length) c.in-Bytes.is (λ e. cc e) i) in
    (h.1, h.0, (λ e. cc (sym c.in-Bytes.is ∙ e)))

pub returns-in-Err-clause-part : goal.returns-in-Err-clause-part
returns-in-Err-clause-part g c = λ b fs t x w i. (subst BeginsString (sym c.in-Bytes.is) tt, c.in-Err.ensures.string b fs t x w (come-begun b fs t x c.args.events.now w c.args.kind (kinds.Bytes c.in-Bytes.length) c.in-Bytes.is (λ e. cc e) i))

pub returns-in-Ok-read_string-clause-part : goal.returns-in-Ok-read_string-clause-part
returns-in-Ok-read_string-clause-part g c = λ b fs t x w i.
    let h = c.in-Ok-read_string.ensures.string b fs t x w (come-begun b fs t x c.args.events.now w c.args.kind (kinds.Text c.in-Text.length) c.in-Text.is (λ e. cc e) i) in
    (h.1, h.0, (λ e. cc (sym c.in-Text.is ∙ e)))

pub returns-in-Err-read_string-clause-part : goal.returns-in-Err-read_string-clause-part
returns-in-Err-read_string-clause-part g c = λ b fs t x w i. (subst BeginsString (sym c.in-Text.is) tt, c.in-Err-read_string.ensures.string b fs t x w (come-begun b fs t x c.args.events.now w c.args.kind (kinds.Text c.in-Text.length) c.in-Text.is (λ e. cc e) i))

pub returns-in_default-major-clause-part : goal.returns-in_default-major-clause-part
returns-in_default-major-clause-part g c = λ b fs t x w i.
    let h = c.in-Some.ensures w in
    let leaf : IsLeaf c.in-Some.major = grind (arith, h) in
    ((leaf, h.1), subst (OfLeaf (ReadsItem plain b fs t x _ _ c.args.events.now)) h.0 (leaf-read b fs t x c.args.events.now w _ c.args.kind i) leaf, head-item w c.args.kind _ _ h.0)
