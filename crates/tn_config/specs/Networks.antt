-- What a configuration says of a network.
use Rattle.std.specs.Prelude.{ℕ, List, map, option_map}
use Rattle.tn_net.specs.RawNetworks.{RawLists}
use Rattle.tn_config.specs.declared.configurations.HostLine.{HostLine}
use Rattle.tn_config.specs.declared.configurations.WireLine.{WireLine}
use Rattle.tn_config.specs.Configurations.{BlockState, ConfigState}

abbrev pub named_size : BlockState → List ℕ × ℕ × ℕ
named_size b = (b.name, b.size, b.lines.processor)

abbrev pub host_end : HostLine → List ℕ × ℕ × ℕ
host_end h = (h.name, h.link, h.line)

abbrev pub wire_ends : WireLine → List ℕ × ℕ × List ℕ × ℕ × ℕ
wire_ends w = (w.one, w.one_link, w.two, w.two_link, w.line)

abbrev pub described : ConfigState → RawLists
described c =
    record { names = map named_size c.blocks; host = option_map host_end c.host; wires = map wire_ends c.wires; lines = c.lines }
