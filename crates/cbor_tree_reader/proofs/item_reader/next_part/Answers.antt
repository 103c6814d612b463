use Rattle.std.proofs.Common.{◌++◌, ◌∙◌, ℕ, slice_get, map, ap, refl, inr, arith, length-append}
use Rattle.cbor_head.specs.{Prelude.plain, Prelude.refusal, declared.reason.Reason.TheVariants.RepeatedKey, declared.reason.Refusal.Refusal}
use Rattle.theory_verdicts.{specs.Levels.frame, proofs.Steps.at-reached, proofs.RefusedAfter.stopped_after}
use Rattle.cbor_tree_reader.proofs.PartsTaken.{refused-part, came, part-taken, part-fits, part-no-memory}
use Rattle.cbor_tree_reader.proofs.item_reader.next_part.Goals as goal
use Rattle.cbor_tree_reader.proofs.{TreeValues.tree-takes, PartEnds.repeated-key, PartEnds.goes-or-not}

pub next_head-requires : goal.next_head-requires
next_head-requires g c = c.requires

pub returns-in-Err-clause-part : goal.returns-in-Err-clause-part
returns-in-Err-clause-part g c = λ b t d. c.in-Err.ensures.expected b t d

pub read_part-requires : goal.read_part-requires
read_part-requires g c =
    let s = c.requires in
    let n = c.in-Ok.ensures.expected s.b s.t s.expected in
    record {
      b = s.b;
      fs = map frame s.expected.ls;
      t = s.t;
      x = n.head.bytes;
      w = c.in-Ok.event.width;
      come = came _ _ _ _ s.expected c.next_head.new.events _ _ (g.R.Read.remaining c.next_head.new.reader) _ _ n;
    }

pub returns-in-Err-read_part-clause-part : goal.returns-in-Err-read_part-clause-part
returns-in-Err-read_part-clause-part g c = λ b t d. refused-part _ _ _ _ d c.read_part.new.events _ _ (g.R.Read.remaining c.read_part.new.reader) _ _ (c.in-Ok.ensures.expected b t d) c.in-Err-read_part.refusal (c.in-Err-read_part.ensures.part b)

pub give-requires-clause-bytes : goal.give-requires-clause-bytes
give-requires-clause-bytes g c =
    let s = c.requires in
    (part-fits _ _ _ _ s.expected c.read_part.new.events _ _ (g.R.Read.remaining c.read_part.new.reader) _ _ (c.in-Ok.ensures.expected s.b s.t s.expected) c.in-Ok-read_part.part (c.in-Ok-read_part.ensures.part s.b)).0

pub give-requires-clause-tree : goal.give-requires-clause-tree
give-requires-clause-tree g c = let d = c.requires.expected in tree-takes c.args.items.now.tree d.ls d.tree

pub give-requires-clause-fits : goal.give-requires-clause-fits
give-requires-clause-fits g c =
    let s = c.requires in
    (part-fits _ _ _ _ s.expected c.read_part.new.events _ _ (g.R.Read.remaining c.read_part.new.reader) _ _ (c.in-Ok.ensures.expected s.b s.t s.expected) c.in-Ok-read_part.part (c.in-Ok-read_part.ensures.part s.b)).1

pub returns-in-Err-give-clause-part : goal.returns-in-Err-give-clause-part
returns-in-Err-give-clause-part g c = λ b t d.
    let k = part-taken _ _ _ _ d c.read_part.new.events _ _ (g.R.Read.remaining c.read_part.new.reader) _ _ (c.in-Ok.ensures.expected b t d) c.in-Ok-read_part.part (c.in-Ok-read_part.ensures.part b) in
    part-no-memory _ _ _ _ _ _ _ _ _ _ _ _ _ k c.no_memory.result c.no_memory.ensures.memory c.no_memory.ensures.place c.no_memory.ensures.taken

pub end_full-requires : goal.end_full-requires
end_full-requires g c =
    let s = c.requires in
    let k = part-taken _ _ _ _ s.expected c.read_part.new.events _ _ (g.R.Read.remaining c.read_part.new.reader) _ _ (c.in-Ok.ensures.expected s.b s.t s.expected) c.in-Ok-read_part.part (c.in-Ok-read_part.ensures.part s.b) in
    let gave = c.in-Ok-give.ensures in
    record {
      b = s.b;
      e = c.read_part.new.events;
      t = s.t ++ k.bytes;
      ending = k.leads c.give.new.self c.open-height.result c.in-Ok.event.place c.in-Ok-give.opened c.open-height.ensures.count refl gave.starts c.give.ensures.kinds gave.given gave.tree gave.sets;
      counted = c.open-open.ensures.count;
    }

pub returns-in-Err-end_full-clause-part : goal.returns-in-Err-end_full-clause-part
returns-in-Err-end_full-clause-part g c = λ b t d.
    let k = part-taken _ _ _ _ d c.read_part.new.events _ _ (g.R.Read.remaining c.read_part.new.reader) _ _ (c.in-Ok.ensures.expected b t d) c.in-Ok-read_part.part (c.in-Ok-read_part.ensures.part b) in
    let lost = c.no_memory-in-Err-end_full in
    part-no-memory _ _ _ _ _ _ _ _ _ _ _ _ _ k lost.result lost.ensures.memory lost.ensures.place lost.ensures.taken

pub returns-in-Ok-None-clause-part : goal.returns-in-Ok-None-clause-part
returns-in-Ok-None-clause-part g c = λ b t d.
    let k = part-taken _ _ _ _ d c.read_part.new.events _ _ (g.R.Read.remaining c.read_part.new.reader) _ _ (c.in-Ok.ensures.expected b t d) c.in-Ok-read_part.part (c.in-Ok-read_part.ensures.part b) in
    let gave = c.in-Ok-give.ensures in
    let ending = k.leads c.give.new.self c.open-height.result c.in-Ok.event.place c.in-Ok-give.opened c.open-height.ensures.count refl gave.starts c.give.ensures.kinds gave.given gave.tree gave.sets in
    let ended = c.in-Ok-end_full.ensures.ends b c.read_part.new.events (t ++ k.bytes) ending c.open-open.ensures.count in
    let some = k.some in
    let key = rw c.in-Ok-None.field-0-is at (c.in-Ok-None.ensures.returned ended.held) in
    record {
      bytes = k.bytes;
      some = some;
      consumed = k.consumed;
      agrees = goes-or-not c.end_full.new.self c.repeated.new.self b c.read_part.new.events (t ++ k.bytes) c.open-open.result ended (omega (arith, some, length-append t k.bytes)) c.repeated.ensures.same.0 c.repeated.ensures.same.1 c.repeated.ensures.same.2 c.repeated.ensures.same.3
          key c.open-open.ensures.count;
    }

pub returns-in-Ok-Some-clause-part : goal.returns-in-Ok-Some-clause-part
returns-in-Ok-Some-clause-part g c = λ b t d.
    let k = part-taken _ _ _ _ d c.read_part.new.events _ _ (g.R.Read.remaining c.read_part.new.reader) _ _ (c.in-Ok.ensures.expected b t d) c.in-Ok-read_part.part (c.in-Ok-read_part.ensures.part b) in
    let gave = c.in-Ok-give.ensures in
    let ending = k.leads c.give.new.self c.open-height.result c.in-Ok.event.place c.in-Ok-give.opened c.open-height.ensures.count refl gave.starts c.give.ensures.kinds gave.given gave.tree gave.sets in
    let ended = c.in-Ok-end_full.ensures.ends b c.read_part.new.events (t ++ k.bytes) ending c.open-open.ensures.count in
    let key = rw c.in-Ok-Some.field-0-is at (c.in-Ok-Some.ensures.returned ended.held) in
    let reported = c.new.ensures ∙ ap (λ (x : ℕ). refusal RepeatedKey c.in-Ok-Some.place x) c.taken.ensures.taken in
    stopped_after plain b t _ _ c.new.result k.bytes k.consumed (at-reached b c.read_part.new.events (t ++ k.bytes) ended.q ended.at).begins ended.keeps (record {
      read = ap (λ (x : Refusal). x.read) reported ∙ k.at.agrees.agrees.taken;
      why = inr (repeated-key c.end_full.new.self b c.read_part.new.events (t ++ k.bytes) ended (omega (arith, k.some, length-append t k.bytes)) c.in-Ok-Some.place c.new.result key.0
          (λ at is. key.1 at (ap (λ (i : ℕ). slice_get c.end_full.new.self.starts.items i) c.open-open.ensures.count ∙ is))
          reported _);
    })

pub returns-in-Err-repeated-clause-part : goal.returns-in-Err-repeated-clause-part
returns-in-Err-repeated-clause-part g c = λ b t d.
    let k = part-taken _ _ _ _ d c.read_part.new.events _ _ (g.R.Read.remaining c.read_part.new.reader) _ _ (c.in-Ok.ensures.expected b t d) c.in-Ok-read_part.part (c.in-Ok-read_part.ensures.part b) in
    let lost = c.no_memory-in-Err-repeated in
    part-no-memory _ _ _ _ _ _ _ _ _ _ _ _ _ k lost.result lost.ensures.memory lost.ensures.place lost.ensures.taken
