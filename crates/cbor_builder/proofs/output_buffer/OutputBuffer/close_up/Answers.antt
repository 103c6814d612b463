use Rattle.cbor_builder.proofs.output_buffer.OutputBuffer.close_up.Goals as goal
use Rattle.cbor_builder.proofs.Written.{vec_closed_up}

pub returns : goal.returns
returns c =
    let v = c.self.inside.buf in
    let d = c.copy_down-self-inside in
    vec_closed_up v.items c.deref_mut.result.now d.new.buf c.args.self.now v.len c.self.inside.len d.result c.args.start c.args.end
    c.deref_mut.ensures.value v.ok.0 d.auto.buf c.self.view_is c.self.invariant c.requires.begins c.requires.ends d.ensures.down
