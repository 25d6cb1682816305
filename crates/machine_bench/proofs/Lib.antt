mod KeptBlocks
