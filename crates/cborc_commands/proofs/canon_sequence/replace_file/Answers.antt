use Rattle.std.proofs.Common.{◌∙◌, refl}
use Rattle.cborc_commands.proofs.Stopped.{all_first, all_replaced, first_written, none_begun, not_replaced, not_written}
use Rattle.cborc_commands.proofs.canon_sequence.replace_file.Goals as goal
use Rattle.cborc_commands.proofs.{Files.keeps_keeps, Earlier.written_before, Earlier.stopped_before}

pub returns-in-Ok-replace-clause-written : goal.returns-in-Ok-replace-clause-written
returns-in-Ok-replace-clause-written g c =
    let old = g.F.Folder.held c.args.files.now in
    let begun = g.F.Folder.held c.begin.new.self in
    all_replaced c.args.order c.args.options c.args.source.now c.args.output old _ _ _
    (written_before _ _ _ _ old begun c.begin.ensures.keeps _ _ _ c.in-Ok-write_items.ensures.written) (g.F.Folder.held c.write_items.new.files)
    (g.F.Folder.held c.replace.new.self) c.requires c.in-Ok.ensures.blank (keeps_keeps _ _ _ c.begin.ensures.keeps c.write_items.ensures.keeps)
    c.in-Ok-replace.ensures.replaces

pub returns-in-Err-replace-clause-fault : goal.returns-in-Err-replace-clause-fault
returns-in-Err-replace-clause-fault g c out =
    let old = g.F.Folder.held c.args.files.now in
    let begun = g.F.Folder.held c.begin.new.self in
    not_written c.args.order c.args.options c.args.source.now c.args.output old c.requires
    (all_first c.args.order c.args.options c.args.source.now c.args.output old _ _ _
    (written_before _ _ _ _ old begun c.begin.ensures.keeps _ _ _ c.in-Ok-write_items.ensures.written))
    c.args.output.path refl _ out c.in-Err-replace.cause c.of_writing.ensures.failed c.of_writing.ensures.memory

pub returns-in-CannotPrint-clause-fault : goal.returns-in-CannotPrint-clause-fault
returns-in-CannotPrint-clause-fault g c out =
    let old = g.F.Folder.held c.args.files.now in
    let begun = g.F.Folder.held c.begin.new.self in
    not_written c.args.order c.args.options c.args.source.now c.args.output old c.requires
    (first_written c.args.order c.args.options c.args.source.now c.args.output old _ _ _
    (stopped_before _ _ _ _ old begun c.begin.ensures.keeps _ _ _ _ c.in-Err-write_items.ensures.stopped) c.in-CannotPrint.is)
    c.args.output.path refl _ out c.abandon-cause.result c.of_writing-in-CannotPrint.ensures.failed c.of_writing-in-CannotPrint.ensures.memory

pub returns-in_default : goal.returns-in_default
returns-in_default g c =
    let old = g.F.Folder.held c.args.files.now in
    let begun = g.F.Folder.held c.begin.new.self in
    record {
      written = tt;
      untouched = keeps_keeps _ _ _ (keeps_keeps _ _ _ c.begin.ensures.keeps c.write_items.ensures.keeps) c.abandon-cause.ensures.keeps;
      same = c.abandon-cause.ensures.same ∙ c.write_items.ensures.same ∙ c.begin.ensures.same;
      fault = not_replaced c.args.order c.args.options c.args.source.now c.args.output old _ _ _ c.requires
          (stopped_before _ _ _ _ old begun c.begin.ensures.keeps _ _ _ _ c.in-Err-write_items.ensures.stopped) c.in_default.not-CannotPrint;
    }

pub returns-in-Err-clause-fault : goal.returns-in-Err-clause-fault
returns-in-Err-clause-fault g c out =
    none_begun c.args.order c.args.options c.args.source.now c.args.output (g.F.Folder.held c.args.files.now) c.requires out
