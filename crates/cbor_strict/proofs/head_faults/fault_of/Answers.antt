use Rattle.cbor_strict.proofs.head_faults.fault_of.Goals as goal

pub returns-in-Direct : goal.returns-in-Direct
returns-in-Direct c = λ reason fault. c.requires reason c.in-Direct.is fault
