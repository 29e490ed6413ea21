use Rattle.hints.proofs.BlockSplits.{block_splits}
use Rattle.hints.proofs.splitting.split_block.Goals as goal

pub returns : goal.returns
returns g c =
    block_splits (g.met.K.Kind.lawful c.args.kind.now) c.args.hints.now c.args.e.now c.padded_row-start.result.cells c.cleared-left.result.cells c.reduced_row-full.result.cells c.requires (c.padded_row-start.ensures.few c.requires) c.cleared-left.ensures c.reduced_row-full.ensures
    c.less-row.ensures c.less-column.ensures c.append.ensures c.append-2.ensures c.append-3.ensures
