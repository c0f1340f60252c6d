use Rattle.mem_port.proofs.PortLemmas.{fault_keeps, rose_of}
use Rattle.mem_port.proofs.mem_port.MemPortCopyPort.synchronise.Goals as goal

pub returns-then-fails_now-clause-keeps : goal.returns-then-fails_now-clause-keeps
returns-then-fails_now-clause-keeps c =
    let h = c.fails_now.ensures.counted in
    fault_keeps _ _ _ _ _ _ _ _ _ _ h.screen h.bitmap h.written h.cuts h.later (rose_of _ _ _ c.if-fails_now.true h.faults)
