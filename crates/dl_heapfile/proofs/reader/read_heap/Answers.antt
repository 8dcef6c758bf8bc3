use Rattle.dl_heapfile.proofs.Whole.{read_once, read_spelt}
use Rattle.dl_heapfile.proofs.reader.read_heap.Goals as goal

pub returns-clause-only : goal.returns-clause-only
returns-clause-only c = λ outcome reads. read_once c.args.source.now c.args.places c.args.bytes.now c.heap_of_text.result outcome c.requires.names c.heap_of_text.ensures.reads reads

pub returns-clause-spelt : goal.returns-clause-spelt
returns-clause-spelt c = read_spelt c.args.source.now c.args.places c.args.bytes.now c.heap_of_text.result c.requires.start c.heap_of_text.ensures.reads
