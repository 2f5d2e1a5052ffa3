-- What a reader holds.
use Rattle.std.specs.Prelude.{map, option_map}
use Rattle.tn_config.specs.declared.drafts.Draft.{Draft}
use Rattle.tn_config.specs.declared.readers.Reader.{Reader}
use Rattle.tn_config.specs.Configurations.{block_of}
use Rattle.tn_config.specs.SoFar.{DraftState, ReaderState}

abbrev pub draft_of : Draft → DraftState
draft_of d =
    record {
      line = d.line;
      name = d.name;
      size = d.size;
      code = d.code;
      cells = d.cells;
      workspace = d.workspace;
      entry = d.entry;
      modules = d.modules.items;
      libraries = d.libraries.items;
      args = d.args.items;
    }

abbrev pub reader_of : Reader → ReaderState
reader_of r =
    record {
      lines = r.lines;
      blocks = map block_of r.blocks.items;
      host = r.host;
      wires = r.wires.items;
      draft = option_map draft_of r.draft;
    }
