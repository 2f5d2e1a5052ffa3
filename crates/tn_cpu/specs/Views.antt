-- What a processor shows of its registers.
use Rattle.tn_cpu.specs.declared.outcomes.Life.{Life}
use Rattle.tn_cpu.specs.declared.processors.CpuView.{CpuView}
use Rattle.tn_cpu.specs.States.{State}

-- the state with this memory whose registers are shown so
abbrev pub state_of : {M : Type 0} → M → CpuView → Life → State M
state_of memory registers life =
    record {
      memory = memory;
      a = registers.a;
      b = registers.b;
      c = registers.c;
      oreg = registers.oreg;
      iptr = registers.iptr;
      wptr = registers.wptr;
      front = registers.front;
      back = registers.back;
      error = registers.error;
      halt = registers.halt;
      life = life;
    }
