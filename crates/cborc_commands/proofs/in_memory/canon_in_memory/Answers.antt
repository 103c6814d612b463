use Rattle.std.proofs.Common.{◌≡◌, Bool, false, ℕ, List, Option, None, Some, refl, subst}
use Rattle.cbor_head.specs.declared.order.KeyOrder.{KeyOrder}
use Rattle.cborc_files.specs.{Folder.Files, InMemory.files_of}
use Rattle.cborc_words.specs.declared.request.{Form.TheVariants.Raw, Options.Options, Output.Output}
use Rattle.cborc_commands.specs.declared.fault.Fault.TheVariants as faults
use Rattle.cborc_commands.proofs.in_memory.canon_in_memory.Goals as goal
use Rattle.cborc_commands.{proofs.Results.if_err, specs.Input.IsInput, specs.Input.IsNotHex, specs.declared.fault.Fault.Fault}
use Rattle.cborc_commands.specs.Canon.{IsNotCanonised, IsNotHeld}

-- for raw bytes
not_held : (options : Options) (o : KeyOrder) (source : List ℕ) (output : Output) (files : Files) (before after : Option (List ℕ)) → options.hex ≡ false
    → (fault : Fault) → IsNotCanonised o options source output (Some files) before after fault → IsNotHeld options.limits o files source output.path.now fault
not_held options o source output files before after raw (faults.Refused f) (input, is, h, own) =
    (input, subst (λ (hex : Bool). IsInput (Some files) source hex input) raw is, h, own)
not_held options o source output files before after raw (faults.CannotRead named) h = h
not_held options o source output files before after raw (faults.NotHex named) h = absurd (subst (λ (hex : Bool). IsNotHex (Some files) source hex) raw h.1)
not_held options o source output files before after raw (faults.CannotWrite named) h = h.reported
not_held options o source output files before after raw faults.CannotPrint h = h.1
not_held options o source output files before after raw faults.Memory h = h
not_held options o source output files before after raw _ h = absurd h

pub returns-clause-fault : goal.returns-clause-fault
returns-clause-fault c =
    let options : Options = record { limits = c.args.limits; hex = false } in
    let output : Output = record { path = c.args.target; form = Raw } in
    if_err c.canon.result _ _ (not_held options c.args.order c.args.source.now output (files_of c.args.files.now) None None refl) c.canon.ensures.fault
